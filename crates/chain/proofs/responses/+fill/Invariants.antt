use Rattle.std.proofs.Common.{◌-◌}
use Rattle.chain.proofs.responses.+fill.Given as goal

abbrev pub decreases-fill : goal.decreases-fill
decreases-fill l = 4 - l.out.len
