-- `put_digits` meets its contract: the digits before the last, and the last. What falls is the digits left.
-- Assumes nothing.
use Rattle.std.proofs.Common.{sym, ap, ◌∙◌, [], ◌∷◌, ◌++◌, ℕ, ◌-◌, ◌/◌}
use Rattle.columns.proofs.WriteLaws.{writes_none, writes_then, writes_same}
use Rattle.book.specs.Images.{hex_of}
use Rattle.snapshot.proofs.DigitLaws.{hex_none, hex_last}
use Rattle.snapshot.proofs.digits.+put_digits.Goals as goal

pub returns-then-count-eq0 : goal.returns-then-count-eq0
returns-then-count-eq0 t c = writes_same (sym (hex_none _ _ c.if-count-eq0.true)) (writes_none _ _)

pub returns : goal.returns
returns t c =
    writes_same (ap (λ (b : ℕ). hex_of (c.args.count - 1) (c.args.n / 16) ++ (b ∷ [])) c.hex_digit.ensures ∙ sym (hex_last c.args.count c.args.n c.if-count-eq0.false))
    (writes_then c.put_digits-last.ensures c.put.ensures)
