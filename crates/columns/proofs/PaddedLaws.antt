-- Laws of a word padded with spaces.
-- Assumes nothing.
use Rattle.std.proofs.Common.{◌≡◌, refl, ap, sym, ◌∙◌, List, [], ◌∷◌, ◌++◌, append-nil, ℕ, zero, suc, ◌+◌, ◌-◌, ◌≤◌, arith, length, take, length-append}
use Rattle.columns.specs.Texts.{spaces, padded, front_of}

-- the first of some spaces
pub take-spaces : (k m : ℕ) → k ≤ m → take k (spaces m) ≡ spaces k
take-spaces zero m h = refl
take-spaces (suc k) zero h = absurd (omega arith)
take-spaces (suc k) (suc m) h = ap (λ (v : List ℕ). 32 ∷ v) (take-spaces k m (omega arith))

-- how many spaces are added makes no difference, if they suffice
enough : (k m : ℕ) (w : List ℕ) → k ≤ m → take k (w ++ spaces m) ≡ take k (w ++ spaces k)
enough k m [] h = take-spaces k m h ∙ sym (take-spaces k k (omega arith))
enough zero m (b ∷ w) h = refl
enough (suc k) m (b ∷ w) h = ap (λ (v : List ℕ). b ∷ v) (enough k m w (omega arith) ∙ sym (enough k (suc k) w (omega arith)))

pub padded_nil : (k : ℕ) → padded k [] ≡ spaces k
unfolding padded
padded_nil k = take-spaces k k (omega arith)

pub padded_cons : (k b : ℕ) (w : List ℕ) → padded (suc k) (b ∷ w) ≡ b ∷ padded k w
unfolding padded
padded_cons k b w = ap (λ (v : List ℕ). b ∷ v) (enough k (suc k) w (omega arith))

pub padded-length : (k : ℕ) (w : List ℕ) → length (padded k w) ≡ k
unfolding padded
padded-length zero w = refl
padded-length (suc k) [] = ap (λ (v : List ℕ). suc (length v)) (padded_nil k) ∙ ap suc (sym (ap length (padded_nil k)) ∙ padded-length k [])
padded-length (suc k) (b ∷ w) = ap length (padded_cons k b w) ∙ ap suc (padded-length k w)

-- one column more is one space more
pub padded-more : (k : ℕ) (w : List ℕ) → length w ≤ k → padded (suc k) w ≡ padded k w ++ (32 ∷ [])
padded-more k [] h = padded_nil (suc k) ∙ one k ∙ ap (λ (v : List ℕ). v ++ (32 ∷ [])) (sym (padded_nil k))
  where
    one : (k : ℕ) → spaces (suc k) ≡ spaces k ++ (32 ∷ [])
    one zero = refl
    one (suc k) = ap (λ (v : List ℕ). 32 ∷ v) (one k)
padded-more zero (b ∷ w) h = absurd (omega arith)
padded-more (suc k) (b ∷ w) h =
    padded_cons (suc k) b w ∙ ap (λ (v : List ℕ). b ∷ v) (padded-more k w (omega arith)) ∙ ap (λ (v : List ℕ). v ++ (32 ∷ [])) (sym (padded_cons k b w))

-- the columns before a word are no part of its padding
pub padded-after : (m k : ℕ) (f w : List ℕ) → m ≡ length f + k → padded m (f ++ w) ≡ f ++ padded k w
padded-after m k [] w e = let q : m ≡ k = omega arith in ap (λ (j : ℕ). padded j w) q
padded-after zero k (b ∷ f) w e = absurd (omega arith)
padded-after (suc m) k (b ∷ f) w e = padded_cons m b (f ++ w) ∙ ap (λ (v : List ℕ). b ∷ v) (padded-after m k f w (omega arith))

-- after a short word stand as many spaces as are left
pub padded-short : (k : ℕ) (w : List ℕ) → length w ≤ k → padded k w ≡ w ++ spaces (k - length w)
padded-short k w h =
    ap (padded k) (sym (append-nil w)) ∙ padded-after k (k - length w) w [] (omega arith) ∙ ap (λ (v : List ℕ). w ++ v) (padded_nil (k - length w))

-- a text of any length, with as many spaces as are left and cut off at the last column
pub padded_cut : (k : ℕ) (w : List ℕ) → take k (w ++ spaces (k - length w)) ≡ padded k w
unfolding padded
padded_cut zero w = refl
padded_cut (suc k) [] = let e : suc k - 0 ≡ suc k = omega arith in rw e refl
padded_cut (suc k) (b ∷ w) =
    let e : suc k - suc (length w) ≡ k - length w = omega arith in
    ap (λ (v : List ℕ). b ∷ v) (rw e (padded_cut k w)) ∙ sym (padded_cons k b w)

-- columns 0 to 13
pub front_length : (letter n : ℕ) (w : List ℕ) → length (front_of letter n w) ≡ 14
front_length letter n w = omega (arith, length-append (padded 8 w) (32 ∷ []), padded-length 8 w)
