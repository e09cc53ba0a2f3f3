-- What each way through a pattern shows.
-- Assumes nothing.
use Rattle.std.proofs.Common.{◌≡◌, refl, Bool, true, false, cond, List, [], ◌∷◌, ◌++◌, ℕ, ◌+◌, ◌≤◌, arith, leb, leb-true, length, get_or, drop, length-append}
use Rattle.grammar.specs.Trees.{any_event, items, Pattern, plain, bracketed}
use Rattle.code.specs.Trees.{code_simple, code_condition, code_pattern}
use Rattle.patterns.specs.Meets.{items_meet, meets}
use Rattle.patterns.specs.Judged.{order_by, bracketed_of, ItemsRead, ConditionRead, PatternRead}
use Rattle.patterns.specs.declared.judge.Judged.{Judged}
use Rattle.patterns.proofs.Here.{none, here}
use Rattle.patterns.proofs.TermLaws.{within}

module _ (above event code : List ℕ) (at : ℕ) where
  pub no-pattern : (ok : Bool) → length code ≤ at → PatternRead above event code at (record { end = at; ok = ok })
  unfolding code_pattern code_simple
  no-pattern ok h = record { onwards = omega arith; moves = λ l. absurd (omega arith); right = go }
    where
      go : (p : Pattern ℕ) (rest : List ℕ) → drop at code ≡ code_pattern p ++ rest → (ok ≡ meets (order_by above) event p) × (at ≡ at + length (code_pattern p))
      go (plain any_event) rest e = absurd (none code at _ _ h e)
      go (plain (items xs)) rest e = absurd (none code at _ _ h e)
      go (bracketed c) rest e = absurd (none code at _ _ h e)

  -- no pattern begins with not
  pub not-pattern : get_or code at 0 ≡ 110 → (r : Judged) → at + 1 ≤ r.end → PatternRead above event code at r
  unfolding code_pattern code_simple
  not-pattern b r l = record { onwards = omega arith; moves = λ h. omega arith; right = go }
    where
      go : (p : Pattern ℕ) (rest : List ℕ) → drop at code ≡ code_pattern p ++ rest → (r.ok ≡ meets (order_by above) event p) × (r.end ≡ at + length (code_pattern p))
      go (plain any_event) rest e = let h = here code at _ _ e in absurd (omega arith)
      go (plain (items xs)) rest e = let h = here code at _ _ e in absurd (omega arith)
      go (bracketed c) rest e = let h = here code at _ _ e in absurd (omega arith)

  pub any_pattern : get_or code at 0 ≡ 97 → PatternRead above event code at (record { end = at + 1; ok = true })
  unfolding code_pattern code_simple meets items_meet
  any_pattern b = record { onwards = omega arith; moves = λ l. omega arith; right = go }
    where
      go : (p : Pattern ℕ) (rest : List ℕ) → drop at code ≡ code_pattern p ++ rest → (true ≡ meets (order_by above) event p) × (at + 1 ≡ at + length (code_pattern p))
      go (plain any_event) rest e = (refl, omega arith)
      go (plain (items xs)) rest e = let h = here code at _ _ e in absurd (omega arith)
      go (bracketed c) rest e = let h = here code at _ _ e in absurd (omega arith)

  pub list-pattern : get_or code at 0 ≡ 60 → (r : Judged) → ItemsRead above event 0 code (at + 1) r → PatternRead above event code at r
  unfolding code_pattern code_simple meets items_meet
  list-pattern b r ih = record { onwards = let p = ih.onwards in omega arith; moves = λ l. let p = ih.onwards in omega arith; right = go }
    where
      go : (p : Pattern ℕ) (rest : List ℕ) → drop at code ≡ code_pattern p ++ rest → (r.ok ≡ meets (order_by above) event p) × (r.end ≡ at + length (code_pattern p))
      go (plain any_event) rest e = let h = here code at _ _ e in absurd (omega arith)
      go (plain (items xs)) rest e = let d = ih.right xs rest (here code at _ _ e).next in (d.0, omega (arith, d.1))
      go (bracketed c) rest e = let h = here code at _ _ e in absurd (omega arith)

  module _ (n₂ : get_or code at 0 ≡ 97 → ⊥) (n₃ : get_or code at 0 ≡ 60 → ⊥) (r : Judged) (ih : ConditionRead above event code (at + 1) r) where
    open_pattern : length code ≤ r.end → PatternRead above event code at (record { end = r.end; ok = false })
    unfolding code_pattern code_simple
    open_pattern l = record { onwards = let p = ih.onwards in omega arith; moves = λ l. let p = ih.onwards in omega arith; right = go }
      where
        go : (p : Pattern ℕ) (rest : List ℕ) → drop at code ≡ code_pattern p ++ rest → (false ≡ meets (order_by above) event p) × (r.end ≡ at + length (code_pattern p))
        go (plain any_event) rest e = absurd (n₂ (here code at _ _ e).byte)
        go (plain (items xs)) rest e = absurd (n₃ (here code at _ _ e).byte)
        go (bracketed c) rest e = absurd (none code r.end _ _ l (within above event code at r ih 91 93 (λ z. absurd (omega arith)) c rest e).2)

    group-pattern : PatternRead above event code at (record { end = r.end + 1; ok = r.ok })
    unfolding code_pattern code_simple meets items_meet
    group-pattern = record { onwards = let p = ih.onwards in omega arith; moves = λ l. let p = ih.onwards in omega arith; right = go }
      where
        go : (p : Pattern ℕ) (rest : List ℕ) → drop at code ≡ code_pattern p ++ rest → (r.ok ≡ meets (order_by above) event p) × (r.end + 1 ≡ at + length (code_pattern p))
        go (plain any_event) rest e = absurd (n₂ (here code at _ _ e).byte)
        go (plain (items xs)) rest e = absurd (n₃ (here code at _ _ e).byte)
        go (bracketed c) rest e = let d = within above event code at r ih 91 93 (λ z. absurd (omega arith)) c rest e in (d.0, omega (arith, d.1, length-append (code_condition c) (93 ∷ [])))

    pub bracket_pattern : PatternRead above event code at (bracketed_of code r)
    bracket_pattern = by (leb (length code) r.end) refl
      where
        by : (b : Bool) → leb (length code) r.end ≡ b → PatternRead above event code at (cond b (record { end = r.end; ok = false }) (record { end = r.end + 1; ok = r.ok }))
        by true h = open_pattern (leb-true (length code) r.end h)
        by false h = group-pattern
