-- What each way through `stars_end` and `stars` shows.
-- Assumes nothing.
use Rattle.std.proofs.Common.{◌≡◌, refl, sym, ap, ◌∙◌, List, ◌++◌, ℕ, zero, suc, ◌+◌, ◌<◌, arith, length, get_or, drop, replicate, ltb, Bool, true, false, not, eqb, ltb-true, ltb-false, eq-eqb, eqb-true}
use Rattle.std.proofs.Math.ListN.{get_or-eq_default}
use Rattle.common.proofs.Bools.{and_left, and_right, and_both, true_not_false}
use Rattle.patterns.proofs.Here.{here, first}
use Rattle.positions.specs.Summaries.{star_summary, star_if}
use Rattle.positions.specs.declared.summaries.Summary.{Summary}
use Rattle.positions.proofs.JoinLaws.{star_star}
use Rattle.follow.specs.Walked.{stands_at, again, AfterFactor, StarsEnd, StarsRead}
use Rattle.follow.specs.declared.walk.Walk.{Walk}

-- what `stands` tells of the byte at a place
module _ (code : List ℕ) (at b : ℕ) (r : Bool) (e : r ≡ stands_at code at b) where
  pub stands_within : r ≡ true → at < length code
  unfolding stands_at
  stands_within h = ltb-true at (length code) (and_left _ _ (sym e ∙ h))

  pub stands_byte : r ≡ true → get_or code at 0 ≡ b
  unfolding stands_at
  stands_byte h = eqb-true _ _ (and_right _ _ (sym e ∙ h))

  pub stands_not : r ≡ false → 0 < b → get_or code at 0 ≡ b → ⊥
  unfolding stands_at
  stands_not h p q = go (ltb at (length code)) refl
    where
      go : (t : Bool) → ltb at (length code) ≡ t → ⊥
      go true d = true_not_false r (e ∙ and_both d (eq-eqb _ _ q)) h
      go false d = let z : get_or code at 0 ≡ 0 = get_or-eq_default code 0 (ltb-false at (length code) d) in omega arith

module _ (code : List ℕ) (at : ℕ) where
  pub end_stars : (get_or code at 0 ≡ 42 → ⊥) → StarsEnd code at at
  end_stars b = record { onwards = omega arith; right = go }
    where
      go : (n : ℕ) (rest : List ℕ) → AfterFactor rest → drop at code ≡ replicate n 42 ++ rest → at ≡ at + n
      go zero rest a e = omega arith
      go (suc n) rest a e = absurd (b (here code at _ _ e).byte)

  pub more_stars : get_or code at 0 ≡ 42 → (r : ℕ) → StarsEnd code (at + 1) r → StarsEnd code at r
  more_stars b r ih = record { onwards = let p = ih.onwards in omega arith; right = go }
    where
      go : (n : ℕ) (rest : List ℕ) → AfterFactor rest → drop at code ≡ replicate n 42 ++ rest → r ≡ at + n
      go zero rest a e = absurd (a (sym (first code at rest e) ∙ b))
      go (suc n) rest a e = omega (arith, ih.right n rest a (here code at _ _ e).next)

-- one star says as much as many
again_star : (n : ℕ) (s : Summary) → again n (star_summary s) ≡ star_summary s
again_star zero s = refl
again_star (suc n) s = ap (again n) (star_star s) ∙ again_star n s

module _ (code : List ℕ) (w : Walk) (e : ℕ) (h : StarsEnd code w.end e) where
  pub some_star : (e ≡ w.end → ⊥) → (s : Summary) → s ≡ star_summary w.summary → StarsRead code w (record { end = e; summary = s })
  some_star ne s q = record { onwards = h.onwards; right = λ n rest a d. go n (h.right n rest a d) }
    where
      go : (n : ℕ) → e ≡ w.end + n → (s ≡ again n w.summary) × (e ≡ w.end + n)
      go zero z = absurd (ne (omega arith))
      go (suc n) z = (q ∙ sym (again_star n w.summary), z)

  -- with or without
  pub star_or_not : (b : Bool) → b ≡ not (eqb e w.end) → StarsRead code w (record { end = e; summary = star_if b w.summary })
  star_or_not true q = some_star (λ d. true_not_false (not (eqb e w.end)) (sym q) (ap not (eq-eqb e w.end d))) _ refl
  star_or_not false q = record { onwards = h.onwards; right = λ n rest a d. go n (omega (arith, h.right n rest a d, same)) }
    where
      same : e ≡ w.end
      same = eqb-true e w.end (go (eqb e w.end) q)
        where
          go : (t : Bool) → false ≡ not t → t ≡ true
          go true z = refl
          go false z = z

      go : (n : ℕ) → 0 ≡ n → (w.summary ≡ again n w.summary) × (e ≡ w.end + n)
      go zero z = (refl, omega (arith, same))
      go (suc n) z = absurd (omega arith)
