-- `step` meets its contract: a law of StepLaws for each way out.
-- Assumes nothing.
use Rattle.chain.proofs.StepLaws.{all-held, least, ended, too_long_lem, worked}
use Rattle.chain.proofs.views.View.step.Goals as goal

pub returns-in_default : goal.returns-in_default
returns-in_default c = ended _ _ _ (least _ _ _ _ c.min-all.ensures c.min.ensures) _ c.roles.ensures c.in_default.ensures _ c.ended.ensures

pub returns-then-work-ge-MAX_RESPONSES : goal.returns-then-work-ge-MAX_RESPONSES
returns-then-work-ge-MAX_RESPONSES c =
    too_long_lem _ _ _ (least _ _ _ _ c.min-all.ensures c.min.ensures) _ c.roles.ensures _ c.in-Some.ensures c.if-work-ge-MAX_RESPONSES.true
    _ c.ended-then-work-ge-MAX_RESPONSES.ensures

pub returns : goal.returns
returns c =
    rw (c.status_after.ensures, c.work_after.ensures, c.is_some.ensures)
    (worked _ _ _ (least _ _ _ _ c.min-all.ensures c.min.ensures) _ c.roles.ensures _ c.in-Some.ensures _ (all-held _ _ c.min-all.ensures)
    c.if-work-ge-MAX_RESPONSES.false _ _ c.row-held.ensures c.code_of.ensures _ c.response_of.ensures _ c.respond-given.ensures)
