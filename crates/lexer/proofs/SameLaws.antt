-- Laws of the comparison of two lists, byte after byte.
-- Assumes nothing.
use Rattle.std.proofs.Common.{◌≡◌, refl, ap, ◌∙◌, Bool, true, ◌&&◌, List, [], ◌∷◌, ℕ, eqb, eq-eqb}
use Rattle.std.specs.Cmp.Lexicographic.{pointwise}
use Rattle.lexer.specs.Words.{same}

pub same_refl : (a : List ℕ) → same a a ≡ true
unfolding same
same_refl [] = refl
same_refl (x ∷ a) = ap (λ (q : Bool). q && same a a) (eq-eqb x x refl) ∙ same_refl a

-- the library's comparison, element by element, is the same
pub pointwise_same : (a k : List ℕ) → pointwise eqb a k ≡ same a k
unfolding same
pointwise_same [] [] = refl
pointwise_same [] (y ∷ k) = refl
pointwise_same (x ∷ a) [] = refl
pointwise_same (x ∷ a) (y ∷ k) = ap (λ (q : Bool). eqb x y && q) (pointwise_same a k)
