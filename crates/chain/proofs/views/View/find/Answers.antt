-- `find` meets its contract: no rule from `rule` on is due.
-- Assumes nothing.
use Rattle.chain.proofs.FindLaws.{nothing, found, onward}
use Rattle.chain.proofs.views.View.find.Goals as goal

pub returns-then-due : goal.returns-then-due
returns-then-due c = found _ _ _ _ c.loop-rule.invariant c.loop-rule-test.true _ c.due.ensures c.if-due.true

pub loop-rule-preserved : goal.loop-rule-preserved
loop-rule-preserved c = onward _ _ _ _ c.loop-rule.invariant c.loop-rule-test.true _ c.due.ensures c.if-due.false

pub returns : goal.returns
returns c = nothing _ _ _ _ c.loop-rule.invariant c.loop-rule-test.false
