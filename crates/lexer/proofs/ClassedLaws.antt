-- Laws of a text whose bytes all have a class.
-- Assumes nothing.
use Rattle.std.proofs.Common.{◌≡◌, refl, ap, Bool, true, false, not, ◌&&◌, List, [], ◌∷◌, ℕ, zero, suc, ◌<◌, arith, eqb, length, get_or, ne_eqb, eqb-true}
use Rattle.std.proofs.lemmas.Bool.{eqb-false}
use Rattle.std.specs.List.{list_all}
use Rattle.lexer.specs.Class.{class_of, all_classed}

-- no byte of a text is of class 0, byte by byte
pub classed-each : (s : List ℕ) → all_classed s ≡ true → (i : ℕ) → i < length s → class_of (get_or s i 0) ≡ 0 → ⊥
unfolding all_classed
classed-each [] h i l e = omega arith
classed-each (b ∷ s) h i l e = go (eqb (class_of b) 0) refl h i l e (classed-each s)
  where
    go : (q : Bool) → eqb (class_of b) 0 ≡ q → not q && all_classed s ≡ true → (i : ℕ) → i < suc (length s) → class_of (get_or (b ∷ s) i 0) ≡ 0
        → (all_classed s ≡ true → (j : ℕ) → j < length s → class_of (get_or s j 0) ≡ 0 → ⊥) → ⊥
    go true q h i l e ih = let z : ◌≡◌ {A = ℕ} 0 1 = cc in omega arith
    go false q h zero l e ih = eqb-false (class_of b) 0 q e
    go false q h (suc i) l e ih = ih h i (omega arith) e

-- a byte that has a class in front of such a text
pub classed_cons : (b : ℕ) (s : List ℕ) → (class_of b ≡ 0 → ⊥) → all_classed s ≡ true → all_classed (b ∷ s) ≡ true
unfolding all_classed
classed_cons b s h g = rw (ne_eqb (class_of b) 0 h) g

pub each-classed : (s : List ℕ) → ((i : ℕ) → i < length s → class_of (get_or s i 0) ≡ 0 → ⊥) → all_classed s ≡ true
unfolding all_classed
each-classed [] h = refl
each-classed (b ∷ s) h = classed_cons b s (h 0 (omega arith)) (each-classed s (λ i l e. h (suc i) (omega arith) e))

-- a byte of class 0 is there where not all have a class
pub classless-some : (s : List ℕ) → all_classed s ≡ false → (i : ℕ) × (i < length s) × (class_of (get_or s i 0) ≡ 0)
unfolding all_classed
classless-some [] h = let z : ◌≡◌ {A = ℕ} 0 1 = cc in absurd (omega arith)
classless-some (b ∷ s) h = go (eqb (class_of b) 0) refl h (classless-some s)
  where
    go : (q : Bool) → eqb (class_of b) 0 ≡ q → not q && all_classed s ≡ false → (all_classed s ≡ false → (i : ℕ) × (i < length s) × (class_of (get_or s i 0) ≡ 0))
        → (i : ℕ) × (i < suc (length s)) × (class_of (get_or (b ∷ s) i 0) ≡ 0)
    go true q h ih = (0, omega arith, eqb-true (class_of b) 0 q)
    go false q h ih = let r = ih h in (suc r.0, omega (arith, r.1), r.2)

-- all bytes pass the test of one
pub classed_all : (s : List ℕ) → all_classed s ≡ list_all (λ b. not (eqb (class_of b) 0)) s
unfolding all_classed
classed_all [] = refl
classed_all (b ∷ s) = ap (λ (q : Bool). not (eqb (class_of b) 0) && q) (classed_all s)
