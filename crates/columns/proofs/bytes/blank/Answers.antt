-- `blank` meets its contract: spaces up to the column, or to the end of the buffer.
-- Assumes nothing.
use Rattle.std.proofs.Common.{rules}
use Rattle.columns.proofs.BlankLaws.{writes_spaces, writes_no_spaces}
use Rattle.columns.proofs.bytes.blank.Goals as goal

pub returns-then-end-at : goal.returns-then-end-at
returns-then-end-at c = writes_no_spaces _ _ _ _ c.min-end.ensures c.if-end-at.true

pub returns : goal.returns
returns c = writes_spaces _ _ _ _ c.min-end.ensures _ c.if-end-at.false (search rules)
