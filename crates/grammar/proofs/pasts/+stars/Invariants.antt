use Rattle.std.proofs.Common.{length}
use Rattle.grammar.proofs.pasts.+stars.Given as goal

abbrev pub decreases-stars : goal.decreases-stars
decreases-stars l = length l.s.now
