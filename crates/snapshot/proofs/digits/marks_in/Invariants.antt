use Rattle.std.proofs.Common.{◌≡◌, take}
use Rattle.book.specs.Restoring.{value_from}
use Rattle.snapshot.proofs.digits.marks_in.Given as goal

abbrev pub invariant-loop-b : goal.invariant-loop-b
invariant-loop-b l = l.n ≡ value_from 0 (take l.b-index l.b-items)
