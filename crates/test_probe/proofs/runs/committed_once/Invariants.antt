-- `committed_once` ends: what is left of the list falls with each event.
use Rattle.std.proofs.Common.{length}
use Rattle.test_probe.proofs.runs.committed_once.Given as goal

abbrev pub decreases-loop-event : goal.decreases-loop-event
decreases-loop-event l = length l.left
