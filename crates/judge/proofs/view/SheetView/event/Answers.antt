-- `event` meets its contract: a law of RecordLaws for each kind that is asked.
-- Assumes nothing.
use Rattle.std.proofs.Common.{refl, Err}
use Rattle.intake.specs.Asking.{request_as}
use Rattle.judge.proofs.RecordLaws.{event-refused, event-line, event-given}
use Rattle.judge.proofs.view.SheetView.event.Goals as goal

pub returns-in-Err : goal.returns-in-Err
returns-in-Err c = rw c.refused_by.ensures (event-refused _ _ (request_as (Err c.in-Err.refusal)) (rw c.prefix.ensures at c.in-Err.ensures) refl)

pub returns-in-Ok-Line : goal.returns-in-Ok-Line
returns-in-Ok-Line c = event-line _ _ _ (rw (c.in-Ok-Line.field-0-is, c.prefix.ensures) at c.in-Ok-Line.ensures) refl

pub returns-in-Ok-Event : goal.returns-in-Ok-Event
returns-in-Ok-Event c = event-given _ _ _ (rw (c.in-Ok-Event.field-0-is, c.prefix.ensures) at c.in-Ok-Event.ensures) refl
