-- `stand_judge` asks the judge on the monitor that the sheet leaves.
-- Assumes nothing.
use Rattle.stand.proofs.SheetLaws.{sheet_uneven, sheet-whole}
use Rattle.stand.proofs.stand_judge.Goals as goal

pub returns-then-rest-ne0 : goal.returns-then-rest-ne0
returns-then-rest-ne0 c = rw c.refused.ensures (sheet_uneven _ _ _ c.if-rest-ne0.true)

pub returns : goal.returns
returns c =
    sheet-whole _ _ _ c.after-monitor.result _ _ _ c.if-rest-ne0.false c.after-monitor.ensures c.from.ensures c.judge.ensures.judged c.judge.ensures.seven c.answered.ensures
