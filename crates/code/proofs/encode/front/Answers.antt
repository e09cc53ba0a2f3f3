-- `front` meets its contract: a law of FrontLaws for each answer of `next`.
-- Assumes nothing.
use Rattle.std.proofs.Common.{arith}
use Rattle.code.specs.Encoded.{Front}
use Rattle.code.proofs.FrontLaws.{first-begins, front_mark, front_other, front_letter, front_name}
use Rattle.code.proofs.IdLaws.{id_fits}
use Rattle.code.proofs.encode.front.Goals as goal

pub returns-in_err-lexeme : goal.returns-in_err-lexeme
unfolding Front
returns-in_err-lexeme c = rw c.from_residual.ensures (first-begins (rw c.in_err-lexeme.was at c.next.ensures))

pub overflow_add-result : goal.overflow_add-result
overflow_add-result c = let h = id_fits _ _ _ c.id_of-id.ensures in omega arith

pub returns-in-Name : goal.returns-in-Name
returns-in-Name c =
    front_name _ _ _ c.in-Word.word _ (first-begins (rw (c.in_ok-lexeme.was, c.in-Word.is, c.in-Name.is) at c.next.ensures)) c.id_of-id.ensures

pub returns-in_default : goal.returns-in_default
returns-in_default c =
    rw c.letter.ensures
    (front_letter _ _ _ _ c.in-Word.word (first-begins (rw (c.in_ok-lexeme.was, c.in-Word.is) at c.next.ensures)) c.in_default.not-Name)

pub returns-in-Mark : goal.returns-in-Mark
returns-in-Mark c = front_mark _ _ _ _ (first-begins (rw (c.in_ok-lexeme.was, c.in-Mark.is) at c.next.ensures))

pub returns-in-Other : goal.returns-in-Other
returns-in-Other c = front_other _ _ _ _ (first-begins (rw (c.in_ok-lexeme.was, c.in-Other.is) at c.next.ensures))
