-- `handle_batch` makes the single calls of a batch in turn: `Progress` holds before each.
-- Assumes nothing.
use Rattle.std.proofs.Common.{arith}
use Rattle.batch.proofs.BatchLaws.{called}
use Rattle.batch.proofs.batches.handle_batch.Goals as goal

pub loop-i-preserved : goal.loop-i-preserved
loop-i-preserved c =
    let step = c.in-Some.ensures.steps in
    (c.loop-i.invariant.0, called c.loop-i.invariant.1 _ _ step.0.1.0 step.0.1.1 _ _ _ _ (omega (arith, step.1)) (omega arith) step.0.0 step.2 _ _ c.handle.ensures c.handle.auto.reply)
