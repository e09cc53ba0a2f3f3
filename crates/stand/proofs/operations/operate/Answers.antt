-- `operate` does what is named.
-- Assumes nothing.
use Rattle.std.proofs.Common.{refl}
use Rattle.stand.proofs.KindLaws.{by_batch_kind, by_keep_kind, by_restore_kind, by_call_kind}
use Rattle.stand.proofs.operations.operate.Goals as goal

pub returns-in-Call : goal.returns-in-Call
returns-in-Call c = rw c.in-Call.is (by_call_kind _ _ _ _ _ _ _ c.uncounted.ensures c.handle.ensures)

pub returns-in-Batch : goal.returns-in-Batch
returns-in-Batch c = rw c.in-Batch.is (by_batch_kind _ _ _ _ _ _ _ c.uncounted-in-Batch.ensures c.handle_batch.ensures)

pub returns-in-Keep : goal.returns-in-Keep
returns-in-Keep c = rw c.in-Keep.is (by_keep_kind _ c.args.records.now _ _ _ _ c.keep.ensures)

pub returns-in-Restore : goal.returns-in-Restore
returns-in-Restore c = rw c.in-Restore.is (by_restore_kind _ _ _ _ _ _ _ c.uncounted-in-Restore.ensures refl c.restore.ensures)
