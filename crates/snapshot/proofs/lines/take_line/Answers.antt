-- `take_line` meets its contract: refused, a line, or an event.
-- Assumes nothing.
use Rattle.std.proofs.Common.{refl}
use Rattle.std.proofs.lemmas.Result.{err_from_is_err_and}
use Rattle.snapshot.proofs.LineLaws.{taken-as, line_turned, line_taken, event_turned}
use Rattle.snapshot.proofs.lines.take_line.Goals as goal

pub returns-in_err-ask : goal.returns-in_err-ask
returns-in_err-ask c =
    let p = err_from_is_err_and c.from_residual.result c.from_residual.ensures.1 in
    taken-as p.1 (line_turned c.args.state.now _ _ (rw (c.in_err-ask.was, c.role_names.ensures.names) at c.ask.ensures) _ refl)

pub returns-in-Line : goal.returns-in-Line
returns-in-Line c = line_taken c.args.state.now _ _ (rw (c.in_ok-ask.was, c.in-Line.is, c.role_names.ensures.names) at c.ask.ensures) refl _ _ (rw c.text.ensures at c.in_order.ensures)

pub returns-in-Event : goal.returns-in-Event
returns-in-Event c = event_turned c.args.state.now _ _ (rw (c.in_ok-ask.was, c.in-Event.is, c.role_names.ensures.names) at c.ask.ensures) _ refl
