use Rattle.std.proofs.Common.{length}
use Rattle.snapshot.proofs.LinesLaws.{TakenTo}
use Rattle.snapshot.proofs.lines.take_lines.Given as goal

abbrev pub invariant-loop-record : goal.invariant-loop-record
invariant-loop-record l = TakenTo l.image l.state l.rest

abbrev pub decreases-loop-record : goal.decreases-loop-record
decreases-loop-record l = length l.rest
