-- `take_lines` meets its contract: the lines before what is left are taken.
-- Assumes nothing.
use Rattle.snapshot.proofs.LinesLaws.{taken_not}
use Rattle.snapshot.proofs.lines.take_lines.Goals as goal

-- a line that is not taken
pub returns-in_err-take_line : goal.returns-in_err-take_line
returns-in_err-take_line c =
    let p = c.in-Some.ensures.cases in
    let t = c.in_err-take_line.ensures in
    taken_not _ _ c.loop-record.rest c.loop-record.invariant _ _ p.0 p.1 p.2 c.if-record-ne76.false _ _ t _ c.from_residual.ensures.0
