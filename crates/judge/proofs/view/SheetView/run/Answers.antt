-- `run` meets its contract: a law of ListLaws for each way on and out.
-- Assumes nothing.
use Rattle.std.proofs.Common.{◌≡◌, rules, Err}
use Rattle.judge.proofs.ListLaws.{judging-end, judging-refused, judging-more}
use Rattle.judge.proofs.view.SheetView.run.Goals as goal

pub returns-in_err-event-clause-judged : goal.returns-in_err-event-clause-judged
returns-in_err-event-clause-judged c =
    let e : c.from_residual.result ≡ Err c.in_err-event.field-0.0 = search rules in
    let step = c.in-Some.ensures.steps in
    rw e (judging-refused _ _ _ _ _ _ _ c.loop-record.invariant _ _ step.1.0 step.1.1 _ c.in_err-event.ensures)

pub loop-record-preserved : goal.loop-record-preserved
loop-record-preserved c =
    let step = c.in-Some.ensures.steps in
    judging-more _ _ _ _ _ _ _ c.loop-record.invariant _ _ step.1.0 step.1.1 _ c.in_ok-event.ensures _ (rw c.roles.ensures at c.rule_step-positions.ensures) _ step.0

pub returns-clause-judged : goal.returns-clause-judged
returns-clause-judged c = rw c.share.ensures (judging-end _ _ _ _ _ _ _ c.loop-record.invariant c.in-None.ensures.steps.1.0)
