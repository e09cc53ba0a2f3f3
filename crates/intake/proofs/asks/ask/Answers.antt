-- `ask` meets its contract, by the frame.
-- Assumes nothing.
use Rattle.std.proofs.Common.{refl, sym, ap, ◌∙◌, Ok}
use Rattle.std.proofs.lemmas.Result.{err_from_is_err_and}
use Rattle.common.specs.Refusals.{refusal_number}
use Rattle.intake.specs.Asking.{refusal, request_as, event_as}
use Rattle.intake.proofs.AskLaws.{ask_line, ask_event, ask_refused, frame_line, frame_event, event_answered}
use Rattle.intake.proofs.asks.ask.Goals as goal

-- rows 2 and 3
pub returns-in_err-framed : goal.returns-in_err-framed
returns-in_err-framed c =
    let p = err_from_is_err_and c.from_residual.result c.from_residual.ensures.1 in
    ask_refused _ _ _ _ (sym c.framed.ensures ∙ c.in_err-framed.was) (ap request_as p.1 ∙ ap (λ x. refusal (refusal_number x)) p.2)

pub returns-in-Line : goal.returns-in-Line
returns-in-Line c = ask_line _ _ _ (frame_line _ (sym c.framed.ensures ∙ c.in_ok-framed.was ∙ ap Ok c.in-Line.is)) refl

-- rows 4 and 6
pub returns-in_err-event-in-Event : goal.returns-in_err-event-in-Event
returns-in_err-event-in-Event c =
    let p = err_from_is_err_and c.from_residual-in_err-event-in-Event.result c.from_residual-in_err-event-in-Event.ensures.1 in
    ask_event _ _ _ (frame_event _ (sym c.framed.ensures ∙ c.in_ok-framed.was ∙ ap Ok c.in-Event.is))
    (ap request_as p.1 ∙ ap (λ x. refusal (refusal_number x)) p.2 ∙ ap event_as (sym c.in_err-event-in-Event.was ∙ (rw c.text.ensures at c.event_line.ensures)) ∙ event_answered _)

pub returns-in_ok-event-in-Event : goal.returns-in_ok-event-in-Event
returns-in_ok-event-in-Event c =
    ask_event _ _ _ (frame_event _ (sym c.framed.ensures ∙ c.in_ok-framed.was ∙ ap Ok c.in-Event.is))
    (ap event_as (sym c.in_ok-event-in-Event.was ∙ (rw c.text.ensures at c.event_line.ensures)) ∙ event_answered _)
