-- `token` meets its contract: a name by its id, a keyword by its letter, and a digit or a mark by itself.
-- Assumes nothing.
use Rattle.std.proofs.Common.{arith, ap, sym, ◌∙◌}
use Rattle.names.specs.Unpacked.{unpacked}
use Rattle.columns.proofs.WriteLaws.{writes_same}
use Rattle.render.proofs.ByteLaws.{bytes-name, bytes_low, bytes_high, bytes_key}
use Rattle.render.proofs.codes.token.Goals as goal
use Rattle.render.proofs.codes.token.Goals.{in_default-via-then-b-lt97, in_default-via-else-b-lt97+else-b-lt123+then-b-lt128}

pub returns-in-128-to-255 : goal.returns-in-128-to-255
returns-in-128-to-255 c =
    writes_same (ap unpacked (rw c.from.ensures at c.number_at.ensures) ∙ sym (bytes-name _ _ (omega arith))) c.word.ensures

pub returns-in-97-to-122 : goal.returns-in-97-to-122
returns-in-97-to-122 c = writes_same (c.keyword.ensures ∙ sym (bytes_key _ _ (omega arith) (omega arith))) c.text.ensures

pub returns-in_default : goal.returns-in_default
returns-in_default c =
    elim c.in_default.branch [
      | in_default-via-then-b-lt97 w ↦ writes_same (sym (bytes_low _ _ (omega arith))) c.put.ensures
      | in_default-via-else-b-lt97+else-b-lt123+then-b-lt128 w ↦ writes_same (sym (bytes_high _ _ (omega arith) (omega arith))) c.put.ensures
    ]
