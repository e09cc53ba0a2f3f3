-- `run_from` meets its contract: steps to an end from here are, with those made, steps from the start. What falls is the budget of 64.
-- Assumes nothing.
use Rattle.chain.proofs.RunLaws.{further, over}
use Rattle.chain.proofs.views.View.run_from.Goals as goal

pub loop-end-preserved : goal.loop-end-preserved
loop-end-preserved c = further _ _ _ c.loop-end.invariant _ c.step-next.ensures c.in_default.is

pub returns-in-Some : goal.returns-in-Some
returns-in-Some c = over _ _ _ c.loop-end.invariant _ c.step-next.ensures _ c.in-Some.is
