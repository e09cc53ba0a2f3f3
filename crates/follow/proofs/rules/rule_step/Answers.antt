-- `rule_step` meets its contract: the walk over the code, and the positions from what it finds.
-- Assumes nothing.
use Rattle.follow.proofs.RuleLaws.{step_idle, step_right}
use Rattle.follow.proofs.rules.rule_step.Goals as goal

pub returns-then-positions-eq0 : goal.returns-then-positions-eq0
returns-then-positions-eq0 c = step_idle _ _ _ _ c.if-positions-eq0.true

pub returns : goal.returns
returns c = step_right _ _ _ _ _ _ _ c.if-positions-eq0.false c.code_of.ensures c.past-walk.ensures c.moved_on.ensures
