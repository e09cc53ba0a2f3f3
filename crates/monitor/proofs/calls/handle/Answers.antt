-- `handle` meets its contract: row 1, and an answer for each kind of record.
-- Assumes nothing.
use Rattle.std.proofs.Common.{refl, Err}
use Rattle.common.specs.Refusals.{refusal_number}
use Rattle.intake.specs.Asking.{request_as}
use Rattle.monitor.specs.Answers.{refused_with}
use Rattle.monitor.proofs.AnswerLaws.{line_answered}
use Rattle.monitor.proofs.EventAnswers.{written-there, event-answered}
use Rattle.monitor.proofs.CallLaws.{record_refused, record_line, record_event, handled_short, handled_whole}
use Rattle.monitor.proofs.calls.handle.Goals as goal

-- row 1
pub returns-then-reply-ne-REPLY_SIZE : goal.returns-then-reply-ne-REPLY_SIZE
returns-then-reply-ne-REPLY_SIZE c = handled_short _ _ _ _ refl c.if-reply-ne-REPLY_SIZE.true

-- a refusal
pub returns-in-Err : goal.returns-in-Err
returns-in-Err c =
    let m = c.args.monitor.now in
    handled_whole m _ _ (refused_with m (refusal_number c.in-Err.refusal)) _ _ c.if-reply-ne-REPLY_SIZE.false
    (record_refused m _ _ (request_as (Err c.in-Err.refusal)) (rw c.role_names.ensures.names at c.in-Err.ensures) refl refl) c.refused.ensures

-- a line
pub returns-in-Ok-Line : goal.returns-in-Ok-Line
returns-in-Ok-Line c =
    let m = c.args.monitor.now in
    let h = c.line.ensures in
    rw h.is
    (handled_whole m _ _ (line_answered h.line) _ _ c.if-reply-ne-REPLY_SIZE.false
    (record_line m _ _ _ (rw (c.in-Ok-Line.field-0-is, c.role_names.ensures.names) at c.in-Ok-Line.ensures) refl h.line (rw c.text.ensures at h.declared) refl) h.written)

-- an event
pub returns-in-Ok-Event : goal.returns-in-Ok-Event
returns-in-Ok-Event c =
    let m = c.args.monitor.now in
    let l = c.if-reply-ne-REPLY_SIZE.false in
    handled_whole m _ _ _ _ _ l (record_event m _ _ _ (rw (c.in-Ok-Event.field-0-is, c.role_names.ensures.names) at c.in-Ok-Event.ensures) refl (event-answered m _ _ _ _ c.event.ensures l)) (written-there _ _ l)
