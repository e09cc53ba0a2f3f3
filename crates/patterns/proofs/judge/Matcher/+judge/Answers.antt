-- `judge` meets its contract: a law of TermLaws, and one of PatternLaws, for each way out. What falls is the code left, and then whole.
-- Assumes nothing.
use Rattle.std.proofs.Common.{refl, rules}
use Rattle.patterns.proofs.JudgeLaws.{as_condition, as_term}
use Rattle.patterns.proofs.PatternLaws.{no-pattern, not-pattern, any_pattern, list-pattern, bracket_pattern}
use Rattle.patterns.proofs.TermLaws.{no-term, not-term, any_term, list-term, bracket_term, last-cond, end-cond, or-cond}
use Rattle.patterns.proofs.judge.Matcher.+judge.Goals as goal

pub returns-in_default : goal.returns-in_default
returns-in_default t c = as_condition _ _ _ _ _ _ c.if-whole.true (end-cond _ _ _ _ _ (c.judge-t.ensures.one refl) (search rules))

pub returns-in_default-2 : goal.returns-in_default-2
returns-in_default-2 t c = as_condition _ _ _ _ _ _ c.if-whole.true (last-cond _ _ _ _ _ (c.judge-t.ensures.one refl) (search rules))

pub returns-then-whole : goal.returns-then-whole
returns-then-whole t c =
    as_condition _ _ _ _ _ _ c.if-whole.true (rw c.or_else.ensures (or-cond _ _ _ _ _ (c.judge-t.ensures.one refl) (search rules) _ (c.judge.ensures.all refl)))

pub returns-in-None : goal.returns-in-None
returns-in-None t c = as_term _ _ _ _ _ _ c.if-whole.false (no-term _ _ _ _ _ (search rules)) (no-pattern _ _ _ _ _ (search rules))

pub returns-in-Some-eq110 : goal.returns-in-Some-eq110
returns-in-Some-eq110 t c =
    let j = c.judge-in-Some-eq110.ensures in
    as_term _ _ _ _ _ _ c.if-whole.false (rw c.opposite.ensures (not-term _ _ _ _ (search rules) _ (j.one refl)))
    (rw c.opposite.ensures (not-pattern _ _ _ _ (search rules) _ j.onwards))

pub returns-in-Some-eq97 : goal.returns-in-Some-eq97
returns-in-Some-eq97 t c = as_term _ _ _ _ _ _ c.if-whole.false (any_term _ _ _ _ (search rules)) (any_pattern _ _ _ _ (search rules))

pub returns-in-Some-eq60 : goal.returns-in-Some-eq60
returns-in-Some-eq60 t c =
    as_term _ _ _ _ _ _ c.if-whole.false (list-term _ _ _ _ (search rules) _ c.items.ensures) (list-pattern _ _ _ _ (search rules) _ c.items.ensures)

pub returns-in-Some : goal.returns-in-Some
returns-in-Some t c =
    let j = c.judge-in-Some.ensures.all refl in
    as_term _ _ _ _ _ _ c.if-whole.false
    (rw c.bracketed.ensures (bracket_term _ _ _ _ (search rules) (search rules) (search rules) _ j))
    (rw c.bracketed.ensures (bracket_pattern _ _ _ _ (search rules) (search rules) _ j))
