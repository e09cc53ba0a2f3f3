-- `marks_in` meets its contract: the number so far is that of the digits before the one read.
-- Assumes nothing.
use Rattle.std.proofs.Common.{ap, ◌∙◌, ℕ, take, drop, take_all}
use Rattle.book.specs.Restoring.{value_from, marks_in}
use Rattle.snapshot.proofs.DigitLaws.{columns-are}
use Rattle.snapshot.proofs.digits.marks_in.Goals as goal

pub returns : goal.returns
unfolding marks_in
returns c =
    c.loop-b.invariant
    ∙ ap (value_from 0) (take_all _ _ c.loop-b-test.false ∙ columns-are c.digits_of.result _ _ _ c.min-start.ensures c.min-end.ensures ∙ ap (λ (d : ℕ). take d (drop 10 c.args.bytes.now)) c.digits_of.ensures)
