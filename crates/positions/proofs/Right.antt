-- The numbers that the code computes, put together with what they mean: they are document 01's marks after any list of events, they are C-12's
-- for any set of positions, and the past matches by them exactly where Appendix A says so.
-- Assumes nothing.
use Rattle.std.proofs.Common.{◌≡◌, ◌∙◌, sym, Bool, true, List, [], ◌∷◌, ◌++◌, ◌↔◌, ℕ, ◌≤◌}
use Rattle.positions.specs.Past.{Past, Sat}
use Rattle.positions.specs.Numbers.{size}
use Rattle.positions.specs.Matcher.{matches}
use Rattle.positions.specs.Positions.{Follows, Matched}
use Rattle.common.specs.Sets.{has_at, shares}
use Rattle.positions.specs.Summaries.{summary, step_of, ends_of, Right}
use Rattle.common.proofs.SetLaws.{has_one}
use Rattle.positions.proofs.Following.{step_iff, matches_now_iff}
use Rattle.positions.proofs.History.{after-start, after-step, now_iff, now_matches}
use Rattle.positions.proofs.SummaryLaws.{step_same, match_same}

-- equal tests stand for each other
iff_true : {a b : Bool} {X : Type 0} → a ≡ b → (b ≡ true) ↔ X → (a ≡ true) ↔ X
iff_true e h = (λ f. h.0 (sym e ∙ f), λ x. e ∙ h.1 x)

module _ {P A : Type 0} (meets : A → P → Bool) (φ : Past P) where
  -- After no events the number 1, position 0 alone, is right.
  pub right-start : Right meets φ [] 1
  right-start k = iff_true (has_one k) (after-start meets φ k)

  module _ (small : size φ ≤ 63) (l : List A) (m : ℕ) (h : Right meets φ l m) where
    -- A number that is right stays right with one event more.
    pub right-step : (a : A) → Right meets φ (l ++ a ∷ []) (step_of m (summary m (meets a) φ 1))
    right-step a k = iff_true (step_same φ small m (meets a) k) (after-step meets φ l (has_at m) h a k)

    -- At a number that is right the past matches exactly where the events match it by Appendix A. The ends may come from a pass for any event
    -- and any positions.
    pub right-matches : (n : ℕ) (t : P → Bool) → (shares m (ends_of (summary n t φ 1)) ≡ true) ↔ Sat meets l φ
    right-matches n t = iff_true (match_same φ small m n t) (now_iff meets φ l (has_at m) h)

    -- The same as an equation of tests.
    pub right_decides : (n : ℕ) (t : P → Bool) → shares m (ends_of (summary n t φ 1)) ≡ matches meets φ l
    right_decides n t = match_same φ small m n t ∙ now_matches meets φ l (has_at m) h

module _ {P : Type 0} (φ : Past P) (small : size φ ≤ 63) where
  -- For any number of positions, also one from elsewhere, the positions after an event are exactly those of C-12.
  pub number_follows : (m : ℕ) (t : P → Bool) (k : ℕ) → (has_at (step_of m (summary m t φ 1)) k ≡ true) ↔ Follows φ (has_at m) t k
  number_follows m t k = iff_true (step_same φ small m t k) (step_iff φ (has_at m) t k)

  -- And the past matches exactly where C-12 says.
  pub number-matches : (m n : ℕ) (t : P → Bool) → (shares m (ends_of (summary n t φ 1)) ≡ true) ↔ Matched φ (has_at m)
  number-matches m n t = iff_true (match_same φ small m n t) (matches_now_iff φ (has_at m))
