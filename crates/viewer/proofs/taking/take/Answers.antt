-- `take` meets its contract: a law of RecordLaws for each thing that becomes of a record.
-- Assumes nothing.
use Rattle.std.proofs.Common.{◌≡◌, refl, rules, Err}
use Rattle.viewer.proofs.RecordLaws.{take_refusal, take_declared, take_undeclared, take_event}
use Rattle.viewer.proofs.taking.take.Goals as goal

pub returns-in_err-ask : goal.returns-in_err-ask
returns-in_err-ask c =
    let e : c.from_residual.result ≡ Err c.in_err-ask.field-0.0 = search rules in
    rw e (take_refusal _ _ _ (rw (c.in_err-ask.was, c.role_names.ensures.names) at c.ask.ensures) _ refl refl)

pub returns-in_err-name-in-Line : goal.returns-in_err-name-in-Line
returns-in_err-name-in-Line c =
    let e : c.from_residual-in_err-name-in-Line.result ≡ Err c.in_err-name-in-Line.field-0.0 = search rules in
    rw e (take_undeclared _ _ (rw (c.in_ok-ask.was, c.in-Line.is, c.role_names.ensures.names) at c.ask.ensures) _ _ (rw (c.text.ensures, c.in_err-name-in-Line.was) at c.declare.ensures))

pub returns-in_ok-name-in-Line : goal.returns-in_ok-name-in-Line
returns-in_ok-name-in-Line c =
    take_declared _ _ (rw (c.in_ok-ask.was, c.in-Line.is, c.role_names.ensures.names) at c.ask.ensures) _ _ (rw (c.text.ensures, c.in_ok-name-in-Line.was) at c.declare.ensures)

pub returns-in-Event : goal.returns-in-Event
returns-in-Event c = take_event _ _ _ (rw (c.in_ok-ask.was, c.in-Event.is, c.role_names.ensures.names) at c.ask.ensures) refl _ c.commit.ensures
