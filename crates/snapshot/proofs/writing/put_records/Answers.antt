-- `put_records` meets its contract: the records before a place are written.
-- Assumes nothing.
use Rattle.std.proofs.Common.{sym, ap, add-one}
use Rattle.columns.proofs.WriteLaws.{writes_none, writes_then, writes_same}
use Rattle.snapshot.specs.Written.{first_of}
use Rattle.snapshot.proofs.writing.put_records.Goals as goal

pub loop-i-init : goal.loop-i-init
loop-i-init g c = λ f h. writes_none _ _

pub loop-i-preserved : goal.loop-i-preserved
loop-i-preserved g c =
    λ f h.
    writes_same (sym (ap (first_of f) (add-one c.loop-i.i)))
    (writes_then (c.loop-i.invariant f h) (writes_same (h c.loop-i.i c.loop-i-test.true _ c.line.ensures) c.text-next.ensures))
