-- The executable matcher decides Appendix A.
-- Assumes nothing.
use Rattle.std.proofs.Common.{◌≡◌, refl, ap, Bool, true, ◌&&◌, List, [], ◌∷◌, ◌++◌, ◌↔◌, ⊎_elim}
use Rattle.std.proofs.lemmas.Bool.{false≢true}
use Rattle.positions.specs.Past.{Past, pat, empty, seq, alt, star, Sat, sat_pat, sat_empty, sat_seq, sat_left, sat_right, sat_stop, sat_more}
use Rattle.positions.specs.Matcher.{some_cut, some_parts, parts, matches}
use Rattle.common.proofs.Bools.{and_both, and_left, and_right, or_left, or_right, or_cases}

-- a cut that the test found
pub cut_sound : {A : Type 0} (f g : List A → Bool) (l : List A) → some_cut f g l ≡ true → (σ : List A) × (ρ : List A) × (l ≡ σ ++ ρ) × (f σ ≡ true) × (g ρ ≡ true)
cut_sound f g [] e = ([], [], refl, and_left (f []) _ e, and_right (f []) _ e)
cut_sound f g (a ∷ l) e =
    ⊎_elim
    (λ h. ([], a ∷ l, refl, and_left (f []) _ h, and_right (f []) _ h))
    (λ h. let r = cut_sound (λ σ. f (a ∷ σ)) g l h in (a ∷ r.0, r.1, ap (λ t. a ∷ t) r.2, r.3, r.4))
    (or_cases (f [] && g (a ∷ l)) _ e)

-- the test finds every cut
pub cut_complete : {A : Type 0} (f g : List A → Bool) (σ ρ : List A) → f σ ≡ true → g ρ ≡ true → some_cut f g (σ ++ ρ) ≡ true
cut_complete f g [] [] p q = and_both p q
cut_complete f g [] (b ∷ ρ) p q = or_left (f [] && g (b ∷ ρ)) _ (and_both p q)
cut_complete f g (a ∷ σ) ρ p q = or_right (f [] && g (a ∷ (σ ++ ρ))) _ (cut_complete (λ τ. f (a ∷ τ)) g σ ρ p q)

-- a part, of which g tells, before whole parts
pub parts_complete : {A : Type 0} (f g : List A → Bool) (σ ρ : List A) → g σ ≡ true → parts f ρ ≡ true → some_parts f g (σ ++ ρ) ≡ true
parts_complete f g [] [] p q = p
parts_complete f g [] (b ∷ ρ) p q = or_left (g [] && parts f (b ∷ ρ)) _ (and_both p q)
parts_complete f g (a ∷ σ) ρ p q = or_right (g [] && parts f (a ∷ (σ ++ ρ))) _ (parts_complete f (λ τ. g (a ∷ τ)) σ ρ p q)

module _ {P A : Type 0} (meets : A → P → Bool) where
  -- a list of parts that the test found
  parts_sound : (φ : Past P) → ((l : List A) → matches meets φ l ≡ true → Sat meets l φ) → (g : List A → Bool) (l : List A) → some_parts (matches meets φ) g l ≡ true → (σ : List A) × (ρ : List A) × (l ≡ σ ++ ρ) × (g σ ≡ true) × Sat meets ρ (star φ)
  parts_sound φ s g [] e = ([], [], refl, e, sat_stop)
  parts_sound φ s g (a ∷ l) e =
      ⊎_elim
      (λ h. let r = parts_sound φ s (λ σ. matches meets φ (a ∷ σ)) l (and_right (g []) _ h) in ([], a ∷ l, refl, and_left (g []) _ h, rw r.2 (sat_more (s (a ∷ r.0) r.3) r.4)))
      (λ h. let r = parts_sound φ s (λ σ. g (a ∷ σ)) l h in (a ∷ r.0, r.1, ap (λ t. a ∷ t) r.2, r.3, r.4))
      (or_cases (g [] && parts (matches meets φ) (a ∷ l)) _ e)

  -- What the test accepts matches.
  pub sound : (φ : Past P) (l : List A) → matches meets φ l ≡ true → Sat meets l φ
  sound (pat p) [] e = absurd (false≢true e)
  sound (pat p) (a ∷ []) e = sat_pat e
  sound (pat p) (a ∷ (b ∷ l)) e = absurd (false≢true e)
  sound empty [] e = sat_empty
  sound empty (a ∷ l) e = absurd (false≢true e)
  sound (seq φ ψ) l e = let r = cut_sound (matches meets φ) (matches meets ψ) l e in rw r.2 (sat_seq (sound φ r.0 r.3) (sound ψ r.1 r.4))
  sound (alt φ ψ) l e = ⊎_elim (λ h. sat_left (sound φ l h)) (λ h. sat_right (sound ψ l h)) (or_cases (matches meets φ l) _ e)
  sound (star φ) [] e = sat_stop
  sound (star φ) (a ∷ l) e = let r = parts_sound φ (sound φ) (λ σ. matches meets φ (a ∷ σ)) l e in rw r.2 (sat_more (sound φ (a ∷ r.0) r.3) r.4)

  -- one more part, which may be empty
  parts_more : (f : List A → Bool) (σ ρ : List A) → f σ ≡ true → parts f ρ ≡ true → parts f (σ ++ ρ) ≡ true
  parts_more f [] ρ p q = q
  parts_more f (a ∷ σ) ρ p q = parts_complete f (λ τ. f (a ∷ τ)) σ ρ p q

  -- The test accepts all that matches.
  pub complete : {l : List A} {φ : Past P} → Sat meets l φ → matches meets φ l ≡ true
  complete (sat_pat e) = e
  complete sat_empty = refl
  complete (sat_seq {σ = σ} {ρ = ρ} {φ = φ} {ψ = ψ} s t) = (cut_complete (matches meets φ) (matches meets ψ) σ ρ (complete s) (complete t))
  complete (sat_left {l = l} {φ = φ} s) = or_left (matches meets φ l) _ (complete s)
  complete (sat_right {l = l} {φ = φ} t) = or_right (matches meets φ l) _ (complete t)
  complete sat_stop = refl
  complete (sat_more {σ = σ} {ρ = ρ} {φ = φ} s t) = (parts_more (matches meets φ) σ ρ (complete s) (complete t))

  -- The matcher says yes exactly to the lists that match by Appendix A.
  pub matches_iff : (φ : Past P) (l : List A) → (matches meets φ l ≡ true) ↔ Sat meets l φ
  matches_iff φ l = (sound φ l, complete)
