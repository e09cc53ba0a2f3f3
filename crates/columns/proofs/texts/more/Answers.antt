-- `more` meets its contract: the names before i are written. What falls is the names left.
-- Assumes nothing.
use Rattle.std.proofs.Common.{arith}
use Rattle.columns.specs.Texts.{before}
use Rattle.columns.proofs.WriteLaws.{writes_none}
use Rattle.columns.proofs.WordLaws.{writes_more}
use Rattle.columns.proofs.texts.more.Goals as goal

pub loop-name-init : goal.loop-name-init
unfolding before
loop-name-init c = (omega arith, writes_none _ _)

pub loop-name-preserved : goal.loop-name-preserved
loop-name-preserved c =
    let l = c.loop-name in
    (omega (arith, c.loop-name-test.true), writes_more _ l.name-index c.loop-name-test.true l.invariant.1 c.put-space.ensures c.word-next.ensures)
