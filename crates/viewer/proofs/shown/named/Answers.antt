use Rattle.viewer.proofs.WriteLaws.{writes_named, writes_unnamed}
use Rattle.viewer.proofs.shown.named.Goals as goal

pub returns-then-asked : goal.returns-then-asked
returns-then-asked c = writes_named _ _ c.if-asked.true c.put-next.ensures c.word.ensures

pub returns : goal.returns
returns c = writes_unnamed _ _ _ _ c.if-asked.false
