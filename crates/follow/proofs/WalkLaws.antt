-- What each way through `base` and `factor` shows.
-- Assumes nothing.
use Rattle.std.proofs.Common.{◌≡◌, refl, sym, ap, ◌∙◌, Bool, List, [], ◌∷◌, ◌++◌, append_assoc, ℕ, zero, suc, ◌+◌, ◌≤◌, arith, length, get_or, drop, replicate, length-append}
use Rattle.std.proofs.lemmas.List.{length-replicate}
use Rattle.common.proofs.Bools.{true_not_false}
use Rattle.grammar.specs.Trees.{Pattern, plain, bracketed, any_event, items, Past, Factor, starred, Base, pattern, nothing, group}
use Rattle.code.specs.Trees.{code_simple, code_pattern, code_past, code_factor, code_base}
use Rattle.patterns.specs.Meets.{meets}
use Rattle.patterns.specs.Judged.{order_by, PatternRead}
use Rattle.patterns.specs.declared.judge.Judged.{Judged}
use Rattle.patterns.proofs.Here.{none, here, beyond}
use Rattle.positions.specs.Past as meaning
use Rattle.positions.specs.Summaries.{summary, empty_summary, pat_summary}
use Rattle.positions.specs.declared.summaries.Summary.{Summary}
use Rattle.follow.specs.Meaning.{stars_on, past_meaning, factor_meaning, base_meaning}
use Rattle.follow.specs.Walked.{starts, again, AfterBase, AfterFactor, StarsRead, BaseRead, FactorRead, PastRead}
use Rattle.follow.specs.declared.walk.Walk.{Walk}
use Rattle.follow.proofs.Heads.{longer, past_head, starts_here}

-- no pattern begins with a round bracket
not_round : (code : List ℕ) (at : ℕ) (p : Pattern ℕ) (rest : List ℕ) → drop at code ≡ code_pattern p ++ rest → get_or code at 0 ≡ 40 → ⊥
unfolding code_pattern code_simple
not_round code at (plain any_event) rest e b = let h = here code at _ _ e in omega arith
not_round code at (plain (items xs)) rest e b = let h = here code at _ _ e in omega arith
not_round code at (bracketed c) rest e b = let h = here code at _ _ e in omega arith

-- stars on a past are stars on what is found
starred-summary : (m : ℕ) (f : Pattern ℕ → Bool) (n : ℕ) (r : meaning.Past (Pattern ℕ)) (k : ℕ) → summary m f (stars_on n r) k ≡ again n (summary m f r k)
unfolding summary
starred-summary m f zero r k = refl
starred-summary m f (suc n) r k = starred-summary m f n (meaning.star r) k

module _ (m : ℕ) (above event code : List ℕ) (at k : ℕ) where
  pub pattern_base : (get_or code at 0 ≡ 40 → ⊥) → (j : Judged) → PatternRead above event code at j → (s : Summary) → s ≡ pat_summary m j.ok k → BaseRead m above event code at k (record { end = j.end; summary = s })
  unfolding code_base base_meaning summary
  pattern_base n j ih s q = record { onwards = ih.onwards; moves = ih.moves; right = go }
    where
      go : (b : Base ℕ) (rest : List ℕ) → AfterBase rest → drop at code ≡ code_base b ++ rest → (s ≡ summary m (meets (order_by above) event) (base_meaning b) k) × (j.end ≡ at + length (code_base b))
      go (pattern p) rest a e = let d = ih.right p rest e in (q ∙ ap (λ (z : Bool). pat_summary m z k) d.0, d.1)
      go nothing rest a e = absurd (n (here code at _ _ e).byte)
      go (group p) rest a e = absurd (n (here code at _ _ e).byte)

  module _ (b : get_or code at 0 ≡ 40) where
    pub empty_base : get_or code (at + 1) 0 ≡ 41 → (s : Summary) → s ≡ empty_summary k → BaseRead m above event code at k (record { end = at + 1 + 1; summary = s })
    unfolding code_base base_meaning summary
    empty_base b' s q = record { onwards = omega arith; moves = λ h. omega arith; right = go }
      where
        go : (t : Base ℕ) (rest : List ℕ) → AfterBase rest → drop at code ≡ code_base t ++ rest → (s ≡ summary m (meets (order_by above) event) (base_meaning t) k) × (at + 1 + 1 ≡ at + length (code_base t))
        go (pattern p) rest a e = absurd (not_round code at p rest e b)
        go nothing rest a e = (q, omega arith)
        go (group p) rest a e = absurd (true_not_false _ (starts_here code (at + 1) _ (longer _ rest (longer (code_past p) (41 ∷ []) (past_head p))) (here code at _ _ e).next) (ap starts b'))

    module _ (n : get_or code (at + 1) 0 ≡ 41 → ⊥) (r : Walk) (ih : PastRead m above event code (at + 1) k r) where
      inside : (p : Past ℕ) (rest : List ℕ) → drop at code ≡ 40 ∷ ((code_past p ++ (41 ∷ [])) ++ rest)
          → (r.summary ≡ summary m (meets (order_by above) event) (past_meaning p) k) × (r.end ≡ at + 1 + length (code_past p)) × (drop r.end code ≡ 41 ∷ rest)
      inside p rest e =
          let q : drop (at + 1) code ≡ code_past p ++ (41 ∷ rest) = (here code at _ _ e).next ∙ append_assoc (code_past p) (41 ∷ []) rest in
          let d = ih.right p (41 ∷ rest) (((λ z. absurd (omega arith)), refl), (λ z. absurd (omega arith))) q in
          (d.0, d.1, beyond code (at + 1) r.end (code_past p) (41 ∷ rest) q d.1)

      pub open_base : length code ≤ r.end → BaseRead m above event code at k r
      unfolding code_base base_meaning
      open_base l = record { onwards = let p = ih.onwards in omega arith; moves = λ h. let p = ih.onwards in omega arith; right = go }
        where
          go : (t : Base ℕ) (rest : List ℕ) → AfterBase rest → drop at code ≡ code_base t ++ rest → (r.summary ≡ summary m (meets (order_by above) event) (base_meaning t) k) × (r.end ≡ at + length (code_base t))
          go (pattern p) rest a e = absurd (not_round code at p rest e b)
          go nothing rest a e = absurd (n (here code (at + 1) _ _ (here code at _ _ e).next).byte)
          go (group p) rest a e = absurd (none code r.end _ _ l (inside p rest e).2)

      pub inner_base : BaseRead m above event code at k (record { end = r.end + 1; summary = r.summary })
      unfolding code_base base_meaning
      inner_base = record { onwards = let p = ih.onwards in omega arith; moves = λ h. let p = ih.onwards in omega arith; right = go }
        where
          go : (t : Base ℕ) (rest : List ℕ) → AfterBase rest → drop at code ≡ code_base t ++ rest → (r.summary ≡ summary m (meets (order_by above) event) (base_meaning t) k) × (r.end + 1 ≡ at + length (code_base t))
          go (pattern p) rest a e = absurd (not_round code at p rest e b)
          go nothing rest a e = absurd (n (here code (at + 1) _ _ (here code at _ _ e).next).byte)
          go (group p) rest a e = let d = inside p rest e in (d.0, omega (arith, d.1, length-append (code_past p) (41 ∷ [])))

  pub whole_factor : (w r : Walk) → BaseRead m above event code at k w → StarsRead code w r → FactorRead m above event code at k r
  unfolding code_factor factor_meaning
  whole_factor w r ib is = record { onwards = let p = ib.onwards in let p' = is.onwards in omega arith; moves = λ h. let p = ib.moves h in let p' = is.onwards in omega arith; right = go }
    where
      go : (f : Factor ℕ) (rest : List ℕ) → AfterFactor rest → drop at code ≡ code_factor f ++ rest → (r.summary ≡ summary m (meets (order_by above) event) (factor_meaning f) k) × (r.end ≡ at + length (code_factor f))
      go (starred b n) rest a e =
          let q : drop at code ≡ code_base b ++ (replicate n 42 ++ rest) = e ∙ append_assoc (code_base b) (replicate n 42) rest in
          let d = ib.right b _ tt q in
          let g = is.right n rest a (beyond code at w.end (code_base b) _ q d.1) in (
            g.0 ∙ ap (again n) d.0 ∙ sym (starred-summary m (meets (order_by above) event) n (base_meaning b) k),
            omega (arith, d.1, g.1, length-append (code_base b) (replicate n 42), length-replicate {A = ℕ} n 42),
          )
