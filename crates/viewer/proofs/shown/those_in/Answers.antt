use Rattle.columns.proofs.WriteLaws.{writes_none}
use Rattle.viewer.specs.Lines.{listed}
use Rattle.viewer.proofs.WriteLaws.{writes_rule}
use Rattle.viewer.proofs.shown.those_in.Goals as goal

pub loop-i-init : goal.loop-i-init
unfolding listed
loop-i-init c = writes_none _ _

pub loop-i-preserved : goal.loop-i-preserved
loop-i-preserved c = writes_rule _ _ _ _ c.has.ensures c.loop-i.invariant c.named-next.ensures
