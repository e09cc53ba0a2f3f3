-- `base`, `factor`, `further`, `sequence` and `past` meet their contracts: a law of WalkLaws, SequenceLaws or PastLaws for each way through.
-- Assumes nothing.
use Rattle.std.proofs.Common.{arith, refl, sym, ◌∙◌, ◌<◌, length}
use Rattle.follow.proofs.Heads.{starts_within}
use Rattle.follow.proofs.StarLaws.{stands_within, stands_byte, stands_not}
use Rattle.follow.proofs.WalkLaws.{pattern_base, empty_base, open_base, inner_base, whole_factor}
use Rattle.follow.proofs.SequenceLaws.{after_factor, after_pattern, last_factor, more_factors, whole_sequence}
use Rattle.follow.proofs.PastLaws.{whole_past, end_past, more_past}
use Rattle.follow.proofs.walk.Step.+base_factor_further_past_sequence.Goals as goal

pub base-returns-then-not-stands : goal.base-returns-then-not-stands
base-returns-then-not-stands t c =
    pattern_base _ _ _ _ _ _ (stands_not _ _ _ _ c.stands.ensures c.if-not-stands.true (omega arith)) _ c.pattern-judged.ensures _ c.one-summary.ensures

pub base-returns-then-stands : goal.base-returns-then-stands
base-returns-then-stands t c =
    empty_base _ _ _ _ _ _ (stands_byte _ _ _ _ c.stands.ensures c.if-not-stands.false) (stands_byte _ _ _ _ c.stands-2.ensures c.if-stands.true) _ c.nothing-summary.ensures

pub base-returns-then-past-self : goal.base-returns-then-past-self
base-returns-then-past-self t c =
    open_base _ _ _ _ _ _ (stands_byte _ _ _ _ c.stands.ensures c.if-not-stands.false) (stands_not _ _ _ _ c.stands-2.ensures c.if-stands.false (omega arith)) _ c.past-past.ensures c.if-past-self.true

pub base-returns : goal.base-returns
base-returns t c =
    inner_base _ _ _ _ _ _ (stands_byte _ _ _ _ c.stands.ensures c.if-not-stands.false) (stands_not _ _ _ _ c.stands-2.ensures c.if-stands.false (omega arith)) _ c.past-past.ensures

pub factor-returns : goal.factor-returns
factor-returns t c = whole_factor _ _ _ _ _ _ _ _ c.base-base.ensures c.stars.ensures

pub base-overflow_add-inside : goal.base-overflow_add-inside
base-overflow_add-inside t c = let h = stands_within _ _ _ _ c.stands.ensures c.if-not-stands.false in omega arith

pub base-overflow_add-result : goal.base-overflow_add-result
base-overflow_add-result t c = let h = stands_within _ _ _ _ c.stands-2.ensures c.if-stands.true in omega arith

pub base-past-past-requires : goal.base-past-past-requires
base-past-past-requires t c = let h = stands_within _ _ _ _ c.stands.ensures c.if-not-stands.false in (omega arith, tt)

pub past-loop-other-init : goal.past-loop-other-init
past-loop-other-init t c = let w = c.sequence-walk.ensures in (w.onwards, λ r h. whole_past _ _ _ _ _ _ _ w r h)

pub past-overflow_add-walk : goal.past-overflow_add-walk
past-overflow_add-walk t c = let h = stands_within _ _ _ _ c.stands.ensures c.loop-other-test.true in omega arith

pub past-sequence-other-requires : goal.past-sequence-other-requires
past-sequence-other-requires t c =
    let h = stands_within _ _ _ _ c.stands.ensures c.loop-other-test.true in
    let o = c.loop-other.invariant.0 in
    (omega arith, tt)

pub past-loop-other-smaller : goal.past-loop-other-smaller
past-loop-other-smaller t c =
    let h = stands_within _ _ _ _ c.stands.ensures c.loop-other-test.true in
    let o = c.sequence-other.ensures.onwards in
    omega arith

pub past-loop-other-preserved : goal.past-loop-other-preserved
past-loop-other-preserved t c =
    let s = c.sequence-other.ensures in
    let o = s.onwards in
    let i = c.loop-other.invariant in
    let b = stands_byte _ _ _ _ c.stands.ensures c.loop-other-test.true in
    (let p = i.0 in omega arith, λ r h. i.1 r (more_past _ _ _ _ _ b _ s _ c.one_of.ensures r h))

pub past-returns : goal.past-returns
past-returns t c = c.loop-other.invariant.1 _ (end_past _ _ _ _ _ (stands_not _ _ _ _ c.stands.ensures c.loop-other-test.false (omega arith)))

pub further-returns-then-stands : goal.further-returns-then-stands
further-returns-then-stands t c = after_factor _ _ _ _ _ _ c.factor-factor.ensures _ c.in_order.ensures

pub further-returns : goal.further-returns
further-returns t c =
    after_pattern _ _ _ _ _ (stands_not _ _ _ _ c.stands.ensures c.if-stands.false (omega arith)) _ c.pattern-judged.ensures _ c.stars_end-end.ensures _ refl _ c.then_pattern.ensures

pub sequence-loop-walk-init : goal.sequence-loop-walk-init
sequence-loop-walk-init t c = (omega arith, λ r h. whole_sequence _ _ _ _ _ _ _ c.nothing.ensures r h)

pub sequence-loop-walk-smaller : goal.sequence-loop-walk-smaller
sequence-loop-walk-smaller t c =
    let f = c.further-walk.ensures in
    let o = f.onwards in
    let h = starts_within c.args.self.now.matcher.code.now c.further-walk.result.end (sym c.starts.ensures ∙ c.if-not-starts.false) in
    let l : c.loop-walk.walk.end < length c.args.self.now.matcher.code.now = omega (arith, o, h) in
    let m = f.moves l in
    omega (arith, m, h)

pub sequence-loop-walk-preserved : goal.sequence-loop-walk-preserved
sequence-loop-walk-preserved t c =
    let f = c.further-walk.ensures in
    let o = f.onwards in
    let i = c.loop-walk.invariant in
    let p = i.0 in
    (omega arith, λ r h. i.1 r (more_factors _ _ _ _ _ _ f (sym c.starts.ensures ∙ c.if-not-starts.false) r h))

pub sequence-returns-then-not-starts : goal.sequence-returns-then-not-starts
sequence-returns-then-not-starts t c = c.loop-walk.invariant.1 _ (last_factor _ _ _ _ _ _ c.further-walk.ensures (sym c.starts.ensures ∙ c.if-not-starts.true))
