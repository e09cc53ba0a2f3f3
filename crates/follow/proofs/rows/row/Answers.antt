-- `row` meets its contract: a start past the end leaves nothing.
-- Assumes nothing.
use Rattle.std.proofs.Common.{◌∙◌, arith}
use Rattle.follow.proofs.RowLaws.{row_from}
use Rattle.follow.proofs.rows.row.Goals as goal

pub returns : goal.returns
returns c = c.prefix.ensures ∙ row_from _ _ _ _ c.min-start.ensures c.saturating_mul.ensures (omega arith)
