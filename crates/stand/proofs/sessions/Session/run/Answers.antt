-- `run` does every operation as the book does: `Progress` holds before each.
-- Assumes nothing.
use Rattle.stand.proofs.RunLaws.{begun, worked, finished}
use Rattle.stand.proofs.sessions.Session.run.Goals as goal

pub loop-k-init : goal.loop-k-init
loop-k-init c = begun _ _ _ _ _ _ _ _ c.requires c.new-monitor.ensures

pub loop-k-preserved : goal.loop-k-preserved
loop-k-preserved c =
    rw c.answer_number.ensures
    (worked _ _ _ _ _ _ _ _ _ _ _ _ _ _ c.loop-k.invariant c.loop-k-test.true _ _ _ _ c.operation_at-operation.ensures (rw c.written.ensures at c.put_count.ensures) c.operate-done.ensures c.operate-done.auto.replies)

pub returns : goal.returns
returns c = finished _ _ _ _ _ _ _ _ _ _ _ _ _ _ c.loop-k.invariant c.loop-k-test.false
