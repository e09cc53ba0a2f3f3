-- `two_digits` meets its contract: one byte after the other.
-- Assumes nothing.
use Rattle.columns.proofs.WriteLaws.{writes_then}
use Rattle.columns.proofs.bytes.two_digits.Goals as goal

pub returns : goal.returns
returns c =
    writes_then c.put-units.ensures c.put.ensures
