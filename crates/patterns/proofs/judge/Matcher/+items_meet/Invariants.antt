use Rattle.std.proofs.Common.{length}
use Rattle.patterns.proofs.judge.Matcher.+items_meet.Given as goal

abbrev pub decreases-items_meet : goal.decreases-items_meet
decreases-items_meet l = length l.code.now
