-- `put` meets its contract.
-- Assumes nothing.
use Rattle.columns.proofs.WriteLaws.{writes_full, writes_put}
use Rattle.columns.proofs.bytes.put.Goals as goal

pub returns-then-out-at : goal.returns-then-out-at
returns-then-out-at c = writes_full _ _ _ c.if-out-at.true

pub returns : goal.returns
returns c = let a = c.args in writes_put a.at a.b a.out.now c.if-out-at.false
