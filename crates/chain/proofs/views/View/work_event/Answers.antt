-- `work_event` meets its contract.
-- Assumes nothing.
use Rattle.chain.proofs.KeptLaws.{worked}
use Rattle.chain.proofs.views.View.work_event.Goals as goal

pub returns : goal.returns
returns c = worked _ c.args.event _ _ c.begin.ensures c.run_from.ensures
