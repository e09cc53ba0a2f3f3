-- Spaces in front of a text are passed, many at a time; where none is in front, all of it is left.
-- Assumes nothing.
use Rattle.std.proofs.Common.{◌≡◌, refl, ap, sym, ◌∙◌, Bool, true, false, cond, ◌&&◌, List, [], ◌∷◌, ◌++◌, ℕ, arith, length, take, drop, ne_eqb}
use Rattle.std.proofs.lemmas.List.{take-append-drop}
use Rattle.std.specs.List.{list_all}
use Rattle.lexer.specs.Class.{class_of, spacey}
use Rattle.lexer.specs.Run.{after}
use Rattle.lexer.proofs.RunLaws.{no_length}

-- any number of spaces
after_spaces : (front rest : List ℕ) → list_all spacey front ≡ true → after spacey (front ++ rest) ≡ after spacey rest
unfolding after
after_spaces [] rest e = refl
after_spaces (b ∷ front) rest e = go (spacey b) e (after_spaces front rest)
  where
    go : (q : Bool) → q && list_all spacey front ≡ true → (list_all spacey front ≡ true → after spacey (front ++ rest) ≡ after spacey rest)
        → cond q (after spacey (front ++ rest)) (b ∷ (front ++ rest)) ≡ after spacey rest
    go true e ih = ih e
    go false e ih = let z : ◌≡◌ {A = ℕ} 0 1 = cc in absurd (omega arith)

-- the first n bytes are as many spaces
pub spaces_passed : (n : ℕ) (t front rest : List ℕ) → front ≡ take n t → rest ≡ drop n t → list_all spacey front ≡ true → after spacey rest ≡ after spacey t
spaces_passed n t front rest f r e =
    let whole : front ++ rest ≡ t = ap (λ (u : List ℕ). u ++ rest) f ∙ ap (λ (u : List ℕ). take n t ++ u) r ∙ take-append-drop n t in
    sym (after_spaces front rest e) ∙ ap (after spacey) whole

-- a text of no bytes, and one that begins with another byte
pub nothing_passed : (s : List ℕ) → length s ≡ 0 → s ≡ after spacey s
unfolding after
nothing_passed s e = rw (no_length s e) refl

pub none_passed : (s : List ℕ) (b : ℕ) (u : List ℕ) → s ≡ b ∷ u → (class_of b ≡ 1 → ⊥) → s ≡ after spacey s
unfolding after spacey
none_passed s b u e z = rw (e, ne_eqb (class_of b) 1 z) refl
