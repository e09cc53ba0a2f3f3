-- `opening` meets its contract: one text after the other.
-- Assumes nothing.
use Rattle.columns.proofs.WriteLaws.{writes_then}
use Rattle.columns.proofs.fronts.opening.Goals as goal

pub returns : goal.returns
returns c =
    writes_then c.put-a.ensures (writes_then c.put-b.ensures (writes_then c.two_digits-c.ensures c.put.ensures))
