-- What each way through a condition and its terms shows.
-- Assumes nothing.
use Rattle.std.proofs.Common.{◌≡◌, refl, sym, ap, ◌∙◌, Bool, true, false, not, cond, ◌||◌, List, [], ◌∷◌, ◌++◌, append_assoc, ℕ, ◌+◌, ◌≤◌, arith, leb, leb-true, length, get_or, drop, length-append}
use Rattle.grammar.specs.Trees.{any_event, items, Condition, term, or, Term, negate, simple, inside}
use Rattle.code.specs.Trees.{code_simple, code_condition, code_term}
use Rattle.patterns.specs.Meets.{items_meet, term_meets, condition_meets}
use Rattle.patterns.specs.Judged.{order_by, either_of, not_of, bracketed_of, Ended, ItemsRead, TermRead, ConditionRead}
use Rattle.patterns.specs.declared.judge.Judged.{Judged}
use Rattle.patterns.proofs.Here.{none, here, beyond, first}

module _ (above event code : List ℕ) (at : ℕ) where
  pub no-term : (ok : Bool) → length code ≤ at → TermRead above event code at (record { end = at; ok = ok })
  unfolding code_term code_simple
  no-term ok h = record { onwards = omega arith; right = go }
    where
      go : (t : Term ℕ) (rest : List ℕ) → drop at code ≡ code_term t ++ rest → (ok ≡ term_meets (order_by above) event t) × (at ≡ at + length (code_term t))
      go (simple any_event) rest e = absurd (none code at _ _ h e)
      go (simple (items xs)) rest e = absurd (none code at _ _ h e)
      go (negate t) rest e = absurd (none code at _ _ h e)
      go (inside c) rest e = absurd (none code at _ _ h e)

  pub not-term : get_or code at 0 ≡ 110 → (r : Judged) → TermRead above event code (at + 1) r → TermRead above event code at (not_of r)
  unfolding code_term code_simple term_meets condition_meets
  not-term b r ih = record { onwards = let p = ih.onwards in omega arith; right = go }
    where
      go : (t : Term ℕ) (rest : List ℕ) → drop at code ≡ code_term t ++ rest → (not r.ok ≡ term_meets (order_by above) event t) × (r.end ≡ at + length (code_term t))
      go (simple any_event) rest e = let h = here code at _ _ e in absurd (omega arith)
      go (simple (items xs)) rest e = let h = here code at _ _ e in absurd (omega arith)
      go (negate t) rest e = let d = ih.right t rest (here code at _ _ e).next in (ap not d.0, omega (arith, d.1))
      go (inside c) rest e = let h = here code at _ _ e in absurd (omega arith)

  pub any_term : get_or code at 0 ≡ 97 → TermRead above event code at (record { end = at + 1; ok = true })
  unfolding code_term code_simple term_meets condition_meets items_meet
  any_term b = record { onwards = omega arith; right = go }
    where
      go : (t : Term ℕ) (rest : List ℕ) → drop at code ≡ code_term t ++ rest → (true ≡ term_meets (order_by above) event t) × (at + 1 ≡ at + length (code_term t))
      go (simple any_event) rest e = (refl, omega arith)
      go (simple (items xs)) rest e = let h = here code at _ _ e in absurd (omega arith)
      go (negate t) rest e = let h = here code at _ _ e in absurd (omega arith)
      go (inside c) rest e = let h = here code at _ _ e in absurd (omega arith)

  pub list-term : get_or code at 0 ≡ 60 → (r : Judged) → ItemsRead above event 0 code (at + 1) r → TermRead above event code at r
  unfolding code_term code_simple term_meets condition_meets
  list-term b r ih = record { onwards = let p = ih.onwards in omega arith; right = go }
    where
      go : (t : Term ℕ) (rest : List ℕ) → drop at code ≡ code_term t ++ rest → (r.ok ≡ term_meets (order_by above) event t) × (r.end ≡ at + length (code_term t))
      go (simple any_event) rest e = let h = here code at _ _ e in absurd (omega arith)
      go (simple (items xs)) rest e = let d = ih.right xs rest (here code at _ _ e).next in (d.0, omega (arith, d.1))
      go (negate t) rest e = let h = here code at _ _ e in absurd (omega arith)
      go (inside c) rest e = let h = here code at _ _ e in absurd (omega arith)

  -- the condition within a pair of brackets ends at the second
  pub within : (r : Judged) → ConditionRead above event code (at + 1) r → (b q : ℕ) → (q ≡ 111 → ⊥) → (c : Condition ℕ) (rest : List ℕ) → drop at code ≡ b ∷ ((code_condition c ++ (q ∷ [])) ++ rest)
      → (r.ok ≡ condition_meets (order_by above) event c) × (r.end ≡ at + 1 + length (code_condition c)) × (drop r.end code ≡ q ∷ rest)
  unfolding Ended
  within r ih b q n c rest e =
      let h = here code at _ _ e in
      let f : drop (at + 1) code ≡ code_condition c ++ (q ∷ rest) = h.next ∙ append_assoc (code_condition c) (q ∷ []) rest in
      let d = ih.right c (q ∷ rest) n f in
      (d.0, d.1, beyond code (at + 1) r.end (code_condition c) (q ∷ rest) f d.1)

  module _ (n₁ : get_or code at 0 ≡ 110 → ⊥) (n₂ : get_or code at 0 ≡ 97 → ⊥) (n₃ : get_or code at 0 ≡ 60 → ⊥) (r : Judged) (ih : ConditionRead above event code (at + 1) r) where
    open_term : length code ≤ r.end → TermRead above event code at (record { end = r.end; ok = false })
    unfolding code_term code_simple
    open_term l = record { onwards = let p = ih.onwards in omega arith; right = go }
      where
        go : (t : Term ℕ) (rest : List ℕ) → drop at code ≡ code_term t ++ rest → (false ≡ term_meets (order_by above) event t) × (r.end ≡ at + length (code_term t))
        go (simple any_event) rest e = absurd (n₂ (here code at _ _ e).byte)
        go (simple (items xs)) rest e = absurd (n₃ (here code at _ _ e).byte)
        go (negate t) rest e = absurd (n₁ (here code at _ _ e).byte)
        go (inside c) rest e = absurd (none code r.end _ _ l (within r ih 40 41 (λ z. absurd (omega arith)) c rest e).2)

    group-term : TermRead above event code at (record { end = r.end + 1; ok = r.ok })
    unfolding code_term code_simple term_meets condition_meets
    group-term = record { onwards = let p = ih.onwards in omega arith; right = go }
      where
        go : (t : Term ℕ) (rest : List ℕ) → drop at code ≡ code_term t ++ rest → (r.ok ≡ term_meets (order_by above) event t) × (r.end + 1 ≡ at + length (code_term t))
        go (simple any_event) rest e = absurd (n₂ (here code at _ _ e).byte)
        go (simple (items xs)) rest e = absurd (n₃ (here code at _ _ e).byte)
        go (negate t) rest e = absurd (n₁ (here code at _ _ e).byte)
        go (inside c) rest e = let d = within r ih 40 41 (λ z. absurd (omega arith)) c rest e in (d.0, omega (arith, d.1, length-append (code_condition c) (41 ∷ [])))

    pub bracket_term : TermRead above event code at (bracketed_of code r)
    bracket_term = by (leb (length code) r.end) refl
      where
        by : (b : Bool) → leb (length code) r.end ≡ b → TermRead above event code at (cond b (record { end = r.end; ok = false }) (record { end = r.end + 1; ok = r.ok }))
        by true h = open_term (leb-true (length code) r.end h)
        by false h = group-term

  -- ---- a condition begins with a term
  module _ (s : Judged) (it : TermRead above event code at s) where
    at_or : (t : Term ℕ) (c : Condition ℕ) (rest : List ℕ) → drop at code ≡ (code_term t ++ (111 ∷ code_condition c)) ++ rest
        → (s.ok ≡ term_meets (order_by above) event t) × (s.end ≡ at + length (code_term t)) × (drop s.end code ≡ 111 ∷ (code_condition c ++ rest))
    at_or t c rest e =
        let q : drop at code ≡ code_term t ++ (111 ∷ (code_condition c ++ rest)) = e ∙ append_assoc (code_term t) (111 ∷ code_condition c) rest in
        let d = it.right t _ q in
        (d.0, d.1, beyond code at s.end (code_term t) _ q d.1)

    pub last-cond : length code ≤ s.end → ConditionRead above event code at s
    unfolding code_condition code_simple condition_meets term_meets
    last-cond l = record { onwards = it.onwards; right = go }
      where
        go : (c : Condition ℕ) (rest : List ℕ) → Ended rest → drop at code ≡ code_condition c ++ rest → (s.ok ≡ condition_meets (order_by above) event c) × (s.end ≡ at + length (code_condition c))
        go (term t) rest n e = it.right t rest e
        go (or t c) rest n e = absurd (none code s.end _ _ l (at_or t c rest e).2)

    pub end-cond : (get_or code s.end 0 ≡ 111 → ⊥) → ConditionRead above event code at s
    unfolding code_condition code_simple condition_meets term_meets
    end-cond b = record { onwards = it.onwards; right = go }
      where
        go : (c : Condition ℕ) (rest : List ℕ) → Ended rest → drop at code ≡ code_condition c ++ rest → (s.ok ≡ condition_meets (order_by above) event c) × (s.end ≡ at + length (code_condition c))
        go (term t) rest n e = it.right t rest e
        go (or t c) rest n e = absurd (b (here code s.end _ _ (at_or t c rest e).2).byte)

    pub or-cond : get_or code s.end 0 ≡ 111 → (r : Judged) → ConditionRead above event code (s.end + 1) r → ConditionRead above event code at (either_of s.ok r)
    unfolding code_condition code_simple condition_meets term_meets Ended
    or-cond b r ih = record { onwards = let p = it.onwards in let p' = ih.onwards in omega arith; right = go }
      where
        go : (c : Condition ℕ) (rest : List ℕ) → Ended rest → drop at code ≡ code_condition c ++ rest → ((s.ok || r.ok) ≡ condition_meets (order_by above) event c) × (r.end ≡ at + length (code_condition c))
        go (term t) rest n e =
            let d = it.right t rest e in
            absurd (n (sym (first code s.end rest (beyond code at s.end (code_term t) rest e d.1)) ∙ b))
        go (or t c) rest n e =
            let d = at_or t c rest e in
            let f = ih.right c rest n (here code s.end _ _ d.2).next in (
              cc (d.0, f.0),
              omega (arith, d.1, f.1, length-append (code_term t) (111 ∷ code_condition c)),
            )
