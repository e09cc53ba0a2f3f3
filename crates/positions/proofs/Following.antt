-- What the walk sets and answers, for any set of positions: exactly what C-12 says.
-- Assumes nothing.
use Rattle.std.proofs.Common.{◌≡◌, refl, Bool, true, false, ◌↔◌, inl, inr, ⊎_elim, ℕ, eqb-true, eq-eqb}
use Rattle.std.proofs.Math.Logic.Iff
use Rattle.positions.specs.Past.{Past}
use Rattle.positions.specs.Numbers.{size}
use Rattle.positions.specs.Positions.{Positions, MayEnd, Follows, Matched}
use Rattle.positions.specs.Walk.{SetSummary, walk, positions_by, matched_by, ends_by, step, matches_now, ends}
use Rattle.common.proofs.Bools.{and_both, and_left, and_right, or_left, or_right, or_cases, same_test}
use Rattle.positions.proofs.Allowed.{Within}
use Rattle.positions.proofs.WalkLaws.{Says, walk-says, met_at-within}

-- What follows from a summary s of the whole past that says what the positions m say.
module _ {P : Type 0} (t : P → Bool) (m : Positions) (φ : Past P) (s : SetSummary) (p : Says t m φ 0 s) where
  positions_by_lem : (k : ℕ) → (positions_by (m 0) s k ≡ true) ↔ Follows φ m t k
  positions_by_lem k = (
    λ e. ⊎_elim
        (λ h. let r = (p.moved_iff k).0 h in (r.1, (r.0.0, r.0.1, inl r.0.2)))
        (λ h. let r = (p.first_iff k).0 (and_right (m 0) _ h) in (r.1, (0, and_left (m 0) _ h, inr (refl, r.0))))
        (or_cases (s.moved k) _ e),
    λ r. ⊎_elim
        (λ b. or_left (s.moved k) _ ((p.moved_iff k).1 ((r.1.0, r.1.1, b), r.0)))
        (λ b. or_right (s.moved k) _ (and_both (rw b.0 at r.1.1) ((p.first_iff k).1 (b.1, r.0))))
        r.1.2,
  )

  matched_by_lem : (matched_by (m 0) s ≡ true) ↔ Matched φ m
  matched_by_lem = (
    λ e. ⊎_elim
        (λ h. let r = p.ending_iff.0 h in (r.0, r.1, inl r.2))
        (λ h. (0, and_left (m 0) _ h, inr (refl, p.nullable_iff.0 (and_right (m 0) _ h))))
        (or_cases s.ending _ e),
    λ r. ⊎_elim
        (λ b. or_left s.ending _ (p.ending_iff.1 (r.0, r.1, b)))
        (λ b. or_right s.ending _ (and_both (rw b.0 at r.1) (p.nullable_iff.1 b.1)))
        r.2,
  )

  ends_by_lem : (k : ℕ) → (ends_by s k ≡ true) ↔ MayEnd φ k
  ends_by_lem k = (
    λ e. ⊎_elim
        (λ h. inl ((p.last_iff k).0 h))
        (λ h. inr (eqb-true k 0 (and_right s.nullable _ h), p.nullable_iff.0 (and_left s.nullable _ h)))
        (or_cases (s.last k) _ e),
    λ r. ⊎_elim
        (λ b. or_left (s.last k) _ ((p.last_iff k).1 b))
        (λ b. or_right (s.last k) _ (and_both (p.nullable_iff.1 b.1) (eq-eqb k 0 b.0)))
        r,
  )

module _ {P : Type 0} (φ : Past P) where
  -- One event sets exactly the positions of C-12: those whose pattern it meets and that a position held may stand just before.
  pub step_iff : (m : Positions) (t : P → Bool) (k : ℕ) → (step φ m t k ≡ true) ↔ Follows φ m t k
  step_iff m t k = positions_by_lem t m φ (walk t m φ 0) (walk-says t m φ 0) k

  -- The past matches exactly where C-12 says: some position held may end an allowed list.
  pub matches_now_iff : (m : Positions) → (matches_now φ m ≡ true) ↔ Matched φ m
  matches_now_iff m = matched_by_lem (λ p. false) m φ (walk (λ p. false) m φ 0) (walk-says (λ p. false) m φ 0)

  -- The set of ends has exactly the positions that may end an allowed list, 0 where the empty list is allowed.
  pub ends_iff : (k : ℕ) → (ends φ k ≡ true) ↔ MayEnd φ k
  ends_iff k = ends_by_lem (λ p. false) (λ n. false) φ (walk (λ p. false) (λ n. false) φ 0) (walk-says (λ p. false) (λ n. false) φ 0) k

  -- The past matches exactly where some position held is one of the ends.
  pub matches_at_ends : (m : Positions) → (matches_now φ m ≡ true) ↔ ((k : ℕ) × (m k ≡ true) × (ends φ k ≡ true))
  matches_at_ends m =
      Iff.trans (matches_now_iff m) (λ r. (r.0, r.1, (ends_iff r.0).1 r.2), λ r. (r.0, r.1, (ends_iff r.0).0 r.2))

  -- The ends depend neither on the event nor on the positions that the walk was for.
  pub ends_any : (t : P → Bool) (m : Positions) (k : ℕ) → ends_by (walk t m φ 0) k ≡ ends φ k
  ends_any t m k = same_test _ _ (Iff.trans (ends_by_lem t m φ (walk t m φ 0) (walk-says t m φ 0) k) (Iff.symm (ends_iff k)))

  -- An event leads to positions of the past's patterns only: none is above the past's size, and position 0 is left.
  pub step-within : (m : Positions) (t : P → Bool) (k : ℕ) → step φ m t k ≡ true → Within 0 (size φ) k
  step-within m t k e = met_at-within t φ 0 k ((step_iff m t k).0 e).0
