-- `after` takes in the whole records of a sheet in turn.
-- Assumes nothing.
use Rattle.std.proofs.Common.{rules}
use Rattle.stand.proofs.SheetLaws.{read_none, read_more, read_all}
use Rattle.stand.proofs.judging.after.Goals as goal

pub loop-record-init : goal.loop-record-init
loop-record-init c = read_none _ _ _ _ (search rules) (search rules) c.new-monitor.ensures

pub loop-record-preserved : goal.loop-record-preserved
loop-record-preserved c =
    let step = c.in-Some.ensures.steps in
    read_more _ _ _ _ _ _ _ _ c.loop-record.invariant step.1.0 step.1.1 step.0 c.take_in.ensures

pub returns : goal.returns
returns c = read_all _ _ _ _ c.loop-record.invariant c.in-None.ensures.steps.1.0
