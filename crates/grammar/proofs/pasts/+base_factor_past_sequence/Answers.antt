-- `past`, `sequence`, `factor` and `base` answer as their parsers do. What falls is four times the unread length and the level: past 3, sequence 2, factor 1, base 0.
use Rattle.std.proofs.Common.{arith, sym, ◌∙◌, le_refl}
use Rattle.grammar.proofs.LevelLaws.{part_shorter}
use Rattle.grammar.proofs.LevelPasts.{past_bad, past-only, past-either, sequence_bad, sequence_single, sequence_beside, factor_bad, factor_stars, base_pattern, base_nothing, base_bad, base_group}
use Rattle.grammar.proofs.pasts.+base_factor_past_sequence.Goals as goal

pub base-past-requires : goal.base-past-requires
base-past-requires t c =
    let a = part_shorter _ _ c.in-Some.ensures.shorter in
    omega arith

pub base-returns-in_default : goal.base-returns-in_default
base-returns-in_default t c = base_pattern _ _ c.in_default.ensures c.pattern.ensures

pub base-returns-in-Some-mark_at : goal.base-returns-in-Some-mark_at
base-returns-in-Some-mark_at t c = base_nothing _ _ _ c.in-Some.ensures c.in-Some-mark_at.ensures

pub base-returns-in_err-close : goal.base-returns-in_err-close
base-returns-in_err-close t c = rw c.from_residual.ensures (base_bad _ _ c.in-Some.ensures c.in_default-mark_at.ensures c.in_err-close.ensures)

pub base-returns : goal.base-returns
base-returns t c = base_group _ _ _ _ c.in-Some.ensures c.in_default-mark_at.ensures c.in_ok-close.ensures c.mark_at-3.ensures

pub factor-returns-in_err-left : goal.factor-returns-in_err-left
factor-returns-in_err-left t c = rw c.from_residual.ensures (factor_bad _ c.in_err-left.ensures)

pub factor-returns : goal.factor-returns
factor-returns t c = factor_stars _ _ _ c.in_ok-left.ensures c.stars.ensures

pub past-loop-left-init : goal.past-loop-left-init
past-loop-left-init t c = (le_refl _, λ r h. h)

pub past-sequence-requires : goal.past-sequence-requires
past-sequence-requires t c = omega (arith, c.loop-left.invariant.0)

pub past-loop-left-smaller : goal.past-loop-left-smaller
past-loop-left-smaller t c =
    let a = part_shorter _ _ c.in_ok-left.ensures.shorter in
    let b = part_shorter _ _ c.in-Some.ensures.shorter in
    omega arith

pub past-loop-left-preserved : goal.past-loop-left-preserved
past-loop-left-preserved t c =
    let a = part_shorter _ _ c.in_ok-left.ensures.shorter in
    let b = part_shorter _ _ c.in-Some.ensures.shorter in
    let i = c.loop-left.invariant in
    (omega (arith, i.0), λ r h. i.1 r (past-either _ _ _ _ c.in_ok-left.ensures c.in-Some.ensures h))

pub past-returns-in_err-left : goal.past-returns-in_err-left
past-returns-in_err-left t c = rw c.from_residual.ensures (c.loop-left.invariant.1 _ (past_bad _ c.in_err-left.ensures))

pub past-returns-in_default : goal.past-returns-in_default
past-returns-in_default t c = c.loop-left.invariant.1 _ (past-only _ _ c.in_ok-left.ensures c.in_default.ensures)

pub sequence-loop-left-init : goal.sequence-loop-left-init
sequence-loop-left-init t c = (le_refl _, λ r h. h)

pub sequence-factor-requires : goal.sequence-factor-requires
sequence-factor-requires t c = omega (arith, c.loop-left.invariant.0)

pub sequence-loop-left-smaller : goal.sequence-loop-left-smaller
sequence-loop-left-smaller t c =
    let a = part_shorter _ _ c.in_ok-left.ensures.shorter in
    omega arith

pub sequence-loop-left-preserved : goal.sequence-loop-left-preserved
sequence-loop-left-preserved t c =
    let a = part_shorter _ _ c.in_ok-left.ensures.shorter in
    let i = c.loop-left.invariant in
    (omega (arith, i.0), λ r h. i.1 r (sequence_beside _ _ _ c.in_ok-left.ensures (sym c.factor_begins.ensures ∙ c.if-not-factor_begins.false) h))

pub sequence-returns-in_err-left : goal.sequence-returns-in_err-left
sequence-returns-in_err-left t c = rw c.from_residual.ensures (c.loop-left.invariant.1 _ (sequence_bad _ c.in_err-left.ensures))

pub sequence-returns-then-not-factor_begins : goal.sequence-returns-then-not-factor_begins
sequence-returns-then-not-factor_begins t c =
    c.loop-left.invariant.1 _ (sequence_single _ _ c.in_ok-left.ensures (sym c.factor_begins.ensures ∙ c.if-not-factor_begins.true))
