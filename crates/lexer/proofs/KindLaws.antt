-- A word of a reserved word's kind is that word.
-- Assumes nothing.
use Rattle.std.proofs.Common.{◌≡◌, refl, ap, ap₂, ◌∙◌, Bool, true, false, cond, ◌&&◌, List, [], ◌∷◌, ℕ, zero, suc, ◌+◌, ◌-◌, ◌<◌, ◌≤◌, length, get_or, arith, eqb, leb, eqb-true, leb-true}
use Rattle.lexer.specs.Class.{within}
use Rattle.common.proofs.Bools.{and_left, and_right}
use Rattle.lexer.specs.Words.{same, name_like, digit_kind, kind_of, reserved, place_from}

pub same_true : (a k : List ℕ) → same a k ≡ true → a ≡ k
unfolding same
same_true [] [] e = refl
same_true [] (y ∷ k) e = let z : ◌≡◌ {A = ℕ} 0 1 = cc in absurd (omega arith)
same_true (x ∷ a) [] e = let z : ◌≡◌ {A = ℕ} 0 1 = cc in absurd (omega arith)
same_true (x ∷ a) (y ∷ k) e = go (eqb x y) refl e (λ h. same_true a k h)
  where
    go : (q : Bool) → eqb x y ≡ q → q && same a k ≡ true → (same a k ≡ true → a ≡ k) → x ∷ a ≡ y ∷ k
    go true h e ih = ap₂ ◌∷◌ (eqb-true x y h) (ih e)
    go false h e ih = let z : ◌≡◌ {A = ℕ} 0 1 = cc in absurd (omega arith)

-- a place in a list of words is counted from i on, or is the other number
pub place_low : (i : ℕ) (ks : List (List ℕ)) (w : List ℕ) (d j : ℕ) → j < i → place_from i ks w d ≡ j → d ≡ j
place_low i [] w d j h e = e
place_low i (k ∷ ks) w d j h e = go (same w k) (λ e₁. place_low (suc i) ks w d j (omega arith) e₁) e
  where
    go : (q : Bool) → (place_from (suc i) ks w d ≡ j → d ≡ j) → cond q i (place_from (suc i) ks w d) ≡ j → d ≡ j
    go true ih e = absurd (omega arith)
    go false ih e = ih e

-- what stands at a place is the word there
pub place-word : (i : ℕ) (ks : List (List ℕ)) (w : List ℕ) (d j : ℕ) → (d ≡ i + j → ⊥) → place_from i ks w d ≡ i + j → w ≡ get_or ks j []
place-word i [] w d j f e = absurd (f e)
place-word i (k ∷ ks) w d zero f e = go (same w k) refl e
  where
    go : (q : Bool) → same w k ≡ q → cond q i (place_from (suc i) ks w d) ≡ i + 0 → w ≡ k
    go true h e = same_true w k h
    go false h e = absurd (f (place_low (suc i) ks w d (i + 0) (omega arith) e))
place-word i (k ∷ ks) w d (suc j) f e = go (same w k) e (place-word (suc i) ks w d j)
  where
    go : (q : Bool) → cond q i (place_from (suc i) ks w d) ≡ i + suc j
        → ((d ≡ suc i + j → ⊥) → place_from (suc i) ks w d ≡ suc i + j → w ≡ get_or ks j []) → w ≡ get_or ks j []
    go true e ih = absurd (omega arith)
    go false e ih = ih (λ z. f (omega arith)) (omega arith)

-- no name and no digit has a reserved word's kind
other-kind : (w : List ℕ) (j : ℕ) → j < 10 → cond (name_like w) 0 (digit_kind w) ≡ 1 + j → ⊥
unfolding digit_kind
other-kind w j h e = go (name_like w) (eqb (length w) 1) (within 48 57 (get_or w 0 0)) refl e
  where
    go : (a b c : Bool) → within 48 57 (get_or w 0 0) ≡ c → cond a 0 (cond b (cond c (get_or w 0 0 - 36) 11) 11) ≡ 1 + j → ⊥
    go true b c q e = omega arith
    go false true true q e = let l = leb-true 48 (get_or w 0 0) (and_left (leb 48 (get_or w 0 0)) (leb (get_or w 0 0) 57) q) in omega arith
    go false true false q e = omega arith
    go false false c q e = omega arith

-- a word of a reserved word's kind is that word
pub kind-word : (w : List ℕ) (j : ℕ) → j < 10 → kind_of w ≡ 1 + j → w ≡ get_or reserved j []
unfolding kind_of
kind-word w j h e = place-word 1 reserved w (cond (name_like w) 0 (digit_kind w)) j (other-kind w j h) e

-- a number above the places is the other number
place_high : (i : ℕ) (ks : List (List ℕ)) (w : List ℕ) (d : ℕ) → i + length ks ≤ place_from i ks w d → place_from i ks w d ≡ d
place_high i [] w d h = refl
place_high i (k ∷ ks) w d h = go (same w k) h (place_high (suc i) ks w d)
  where
    go : (q : Bool) → i + suc (length ks) ≤ cond q i (place_from (suc i) ks w d)
        → (suc i + length ks ≤ place_from (suc i) ks w d → place_from (suc i) ks w d ≡ d) → cond q i (place_from (suc i) ks w d) ≡ d
    go true h ih = absurd (omega arith)
    go false h ih = ih (omega arith)

one-long : (w : List ℕ) → length w ≡ 1 → w ≡ get_or w 0 0 ∷ []
one-long [] e = absurd (omega arith)
one-long (b ∷ []) e = refl
one-long (b ∷ (c ∷ w)) e = absurd (omega arith)

-- a word of a digit's kind is that digit
pub kind_digit : (w : List ℕ) → 12 ≤ kind_of w → (kind_of w ≤ 21) × (w ≡ (kind_of w + 36) ∷ [])
unfolding kind_of digit_kind
kind_digit w h =
    let e : kind_of w ≡ cond (name_like w) 0 (digit_kind w) = place_high 1 reserved w (cond (name_like w) 0 (digit_kind w)) (omega arith) in
    go (name_like w) (eqb (length w) 1) (within 48 57 (get_or w 0 0)) refl refl e
  where
    go : (a b c : Bool) → eqb (length w) 1 ≡ b → within 48 57 (get_or w 0 0) ≡ c → kind_of w ≡ cond a 0 (cond b (cond c (get_or w 0 0 - 36) 11) 11)
        → (kind_of w ≤ 21) × (w ≡ (kind_of w + 36) ∷ [])
    go true b c p q e = absurd (omega arith)
    go false true true p q e =
        let lo : 48 ≤ get_or w 0 0 = leb-true 48 (get_or w 0 0) (and_left (leb 48 (get_or w 0 0)) (leb (get_or w 0 0) 57) q) in
        let hi : get_or w 0 0 ≤ 57 = leb-true (get_or w 0 0) 57 (and_right (leb 48 (get_or w 0 0)) (leb (get_or w 0 0) 57) q) in
        let b₁ : get_or w 0 0 ≡ kind_of w + 36 = omega arith in
        (omega arith, one-long w (eqb-true (length w) 1 p) ∙ ap (λ (x : ℕ). x ∷ []) b₁)
    go false true false p q e = absurd (omega arith)
    go false false c p q e = absurd (omega arith)
