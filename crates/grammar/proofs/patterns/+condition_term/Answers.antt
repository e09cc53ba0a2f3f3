-- `condition` and `term` answer as their parsers do. What falls is twice the unread length and the level: condition 1, term 0.
use Rattle.std.proofs.Common.{arith, le_refl}
use Rattle.lexer.specs.Words.{kind_number}
use Rattle.grammar.proofs.LevelLaws.{part_shorter}
use Rattle.grammar.proofs.LevelPatterns.{condition_bad, condition_term, condition_or, term-not, term-simple, term_bad, term-inside}
use Rattle.grammar.proofs.patterns.+condition_term.Goals as goal

pub condition-loop-left-init : goal.condition-loop-left-init
condition-loop-left-init t c = (le_refl _, λ r h. h)

pub condition-term-requires : goal.condition-term-requires
condition-term-requires t c = omega (arith, c.loop-left.invariant.0)

pub condition-loop-left-smaller : goal.condition-loop-left-smaller
condition-loop-left-smaller t c =
    let a = part_shorter _ _ c.in_ok-left.ensures.shorter in
    let b = part_shorter _ _ c.in-Some.ensures.shorter in
    omega arith

pub condition-loop-left-preserved : goal.condition-loop-left-preserved
unfolding kind_number
condition-loop-left-preserved t c =
    let a = part_shorter _ _ c.in_ok-left.ensures.shorter in
    let b = part_shorter _ _ c.in-Some.ensures.shorter in
    let i = c.loop-left.invariant in
    (omega (arith, i.0), λ r h. i.1 r (condition_or _ _ _ _ c.in_ok-left.ensures c.in-Some.ensures h))

pub condition-returns-in_err-left : goal.condition-returns-in_err-left
condition-returns-in_err-left t c = rw c.from_residual.ensures (c.loop-left.invariant.1 _ (condition_bad _ c.in_err-left.ensures))

pub condition-returns-in_default : goal.condition-returns-in_default
unfolding kind_number
condition-returns-in_default t c = c.loop-left.invariant.1 _ (condition_term _ _ c.in_ok-left.ensures c.in_default.ensures)

pub term-loop-left-init : goal.term-loop-left-init
term-loop-left-init t c = (le_refl _, λ r h. h)

pub term-loop-left-smaller : goal.term-loop-left-smaller
term-loop-left-smaller t c =
    let a = part_shorter _ _ c.in-Some.ensures.shorter in
    omega arith

pub term-loop-left-preserved : goal.term-loop-left-preserved
unfolding kind_number
term-loop-left-preserved t c =
    let a = part_shorter _ _ c.in-Some.ensures.shorter in
    let i = c.loop-left.invariant in
    (omega (arith, i.0), λ r h. i.1 r (term-not _ _ _ c.in-Some.ensures h))

pub term-condition-requires : goal.term-condition-requires
term-condition-requires t c =
    let a = part_shorter _ _ c.in-Some-mark_at.ensures.shorter in
    omega (arith, c.loop-left.invariant.0)

pub term-returns-in_default-mark_at : goal.term-returns-in_default-mark_at
unfolding kind_number
term-returns-in_default-mark_at t c = c.loop-left.invariant.1 _ (term-simple _ _ c.in_default.ensures c.in_default-mark_at.ensures c.simple.ensures)

pub term-returns-in_err-close : goal.term-returns-in_err-close
unfolding kind_number
term-returns-in_err-close t c = rw c.from_residual.ensures (c.loop-left.invariant.1 _ (term_bad _ _ c.in_default.ensures c.in-Some-mark_at.ensures c.in_err-close.ensures))

pub term-returns : goal.term-returns
unfolding kind_number
term-returns t c = c.loop-left.invariant.1 _ (term-inside _ _ _ _ c.in_default.ensures c.in-Some-mark_at.ensures c.in_ok-close.ensures c.mark_at-2.ensures)
