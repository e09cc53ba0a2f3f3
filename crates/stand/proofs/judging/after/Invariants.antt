-- The records before this one are taken in.
-- Assumes nothing.
use Rattle.stand.proofs.SheetLaws.{ReadTo}
use Rattle.stand.proofs.judging.after.Given as goal

abbrev pub invariant-loop-record : goal.invariant-loop-record
invariant-loop-record l = ReadTo l.sheet l.monitor l.record-iterator.size l.record-iterator.rest.now
