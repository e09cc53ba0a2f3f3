-- However the records that are left are judged, so are all.
-- Assumes nothing.
use Rattle.std.proofs.Common.{take}
use Rattle.judge.specs.Judging.{rule_from}
use Rattle.judge.proofs.ListLaws.{Judging}
use Rattle.judge.proofs.view.SheetView.run.Given as goal

abbrev pub invariant-loop-record : goal.invariant-loop-record
invariant-loop-record l =
    Judging (rule_from l.row l.ends) l.records (take l.self.roles l.self.names.now) l.self.above.now l.record-iterator.size l.positions l.record-iterator.rest.now
