use Rattle.snapshot.specs.Reading.{mark_at}
use Rattle.snapshot.proofs.TakingLaws.{Going}
use Rattle.snapshot.proofs.restoring.take_marks.Given as goal

abbrev pub invariant-loop-i : goal.invariant-loop-i
invariant-loop-i l = Going (mark_at l.sheet.rule_names l.sheet.rows l.records) l.count l.fn.positions l.held-items l.i
