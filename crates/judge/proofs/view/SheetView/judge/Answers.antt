-- `judge` meets its contract: 9, 10, and the list.
-- Assumes nothing.
use Rattle.std.proofs.Common.{sym, ◌∙◌}
use Rattle.judge.proofs.JudgeLaws.{judged_none, judged_part, judged_list}
use Rattle.judge.proofs.view.SheetView.judge.Goals as goal

pub returns-then-self-number-clause-judged : goal.returns-then-self-number-clause-judged
returns-then-self-number-clause-judged c = judged_none _ _ _ c.if-self-number.true

pub returns-then-not-is_whole-clause-judged : goal.returns-then-not-is_whole-clause-judged
returns-then-not-is_whole-clause-judged c = judged_part _ _ _ c.if-self-number.false (sym c.is_whole.ensures ∙ c.if-not-is_whole.true)

pub returns-clause-judged : goal.returns-clause-judged
returns-clause-judged c =
    judged_list _ _ _ c.if-self-number.false (sym c.is_whole.ensures ∙ c.if-not-is_whole.false) _ (rw (c.row.ensures, c.number_at.ensures) at c.run.ensures.judged)
