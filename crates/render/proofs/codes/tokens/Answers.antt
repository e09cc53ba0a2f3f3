-- `tokens` meets its contract: the code before the byte at hand is written.
-- Assumes nothing.
use Rattle.render.proofs.CodeLaws.{going_start, going_more, going_end}
use Rattle.render.proofs.codes.tokens.Goals as goal

pub loop-b-init : goal.loop-b-init
loop-b-init c = going_start _ _ _ _

pub loop-b-preserved : goal.loop-b-preserved
loop-b-preserved c = going_more _ _ c.loop-b.invariant c.loop-b-test.true c.space-start.ensures c.token-next.ensures c.is_word-after.ensures

pub returns : goal.returns
returns c = going_end _ _ c.loop-b.invariant c.loop-b-test.false
