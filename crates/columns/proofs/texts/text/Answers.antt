-- `text` meets its contract: what fits of the bytes is copied.
-- Assumes nothing.
use Rattle.std.proofs.Common.{◌≡◌, ◌+◌, ◌-◌, rules, arith}
use Rattle.columns.proofs.WriteLaws.{writes_copied, writes_uncopied}
use Rattle.columns.proofs.texts.text.Goals as goal

pub returns-then-count-eq0 : goal.returns-then-count-eq0
returns-then-count-eq0 c = writes_uncopied _ _ _ (omega arith)

pub returns : goal.returns
returns c =
    let n : c.args.at + c.min-count.result - c.args.at ≡ c.min-count.result = omega arith in
    rw n (writes_copied _ _ _ _ _ (omega arith) (search rules))
