use Rattle.std.proofs.Common.{◌-◌}
use Rattle.chain.specs.Duties.{seen}
use Rattle.chain.proofs.RunLaws.{Underway}
use Rattle.chain.proofs.views.View.run_from.Given as goal

abbrev pub invariant-loop-end : goal.invariant-loop-end
invariant-loop-end l = Underway (seen l.self) l.initial.work l.work

abbrev pub decreases-loop-end : goal.decreases-loop-end
decreases-loop-end l = 64 - l.work.worked
