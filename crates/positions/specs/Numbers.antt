-- The patterns of a past by their numbers, and the lists of numbers that the past allows. Document 01: "number the patterns of a past 1, 2, .. from
-- the left". A past φ may be a part of another, so each definition takes an i: φ's own patterns have the numbers i + 1 to i + size φ.
-- Assumes nothing.
use Rattle.std.specs.Prelude.{◌≡◌, Bool, true, false, ◌&&◌, ◌||◌, List, [], ◌∷◌, ◌++◌, ℕ, suc, ◌+◌, eqb}
use Rattle.positions.specs.Past.{Past, pat, empty, seq, alt, star}

-- how many patterns φ has
abbrev pub size : {P : Type 0} → Past P → ℕ
size (pat p) = 1
size empty = 0
size (seq φ ψ) = size φ + size ψ
size (alt φ ψ) = size φ + size ψ
size (star φ) = size φ

-- `Allows φ i w`: w is "a list of numbered patterns that the past allows". It is `Sat`, with a pattern's number for an event that meets it.
pub data Allows {P : Type 0} : Past P → ℕ → List ℕ → Type 0 where
  allow_pat : {p : P} {i : ℕ} → Allows (pat p) i (suc i ∷ [])
  allow_empty : {i : ℕ} → Allows empty i []
  allow_seq : {φ ψ : Past P} {i : ℕ} {v w : List ℕ} → Allows φ i v → Allows ψ (i + size φ) w → Allows (seq φ ψ) i (v ++ w)
  allow_left : {φ ψ : Past P} {i : ℕ} {w : List ℕ} → Allows φ i w → Allows (alt φ ψ) i w
  allow_right : {φ ψ : Past P} {i : ℕ} {w : List ℕ} → Allows ψ (i + size φ) w → Allows (alt φ ψ) i w
  allow_stop : {φ : Past P} {i : ℕ} → Allows (star φ) i []
  allow_more : {φ : Past P} {i : ℕ} {v w : List ℕ} → Allows φ i v → Allows (star φ) i w → Allows (star φ) i (v ++ w)

-- "the empty list is allowed"
abbrev pub Nullable : {P : Type 0} → Past P → ℕ → Type 0
Nullable φ i = Allows φ i []

-- k may begin an allowed list
abbrev pub Begins : {P : Type 0} → Past P → ℕ → ℕ → Type 0
Begins φ i k = (v : List ℕ) × Allows φ i (k ∷ v)

-- k "may end such a list"
abbrev pub Ends : {P : Type 0} → Past P → ℕ → ℕ → Type 0
Ends φ i k = (w : List ℕ) × Allows φ i (w ++ k ∷ [])

-- j "may stand just before k in a list of patterns the past allows"
abbrev pub Before : {P : Type 0} → Past P → ℕ → ℕ → ℕ → Type 0
Before φ i j k = (w : List ℕ) × (v : List ℕ) × Allows φ i (w ++ j ∷ k ∷ v)

-- k is the number of one of φ's patterns, and the test t holds of that pattern. For an event a the test is `meets a`: a meets pattern k.
abbrev pub met_at : {P : Type 0} → (P → Bool) → Past P → ℕ → ℕ → Bool
met_at t (pat p) i k = eqb k (suc i) && t p
met_at t empty i k = false
met_at t (seq φ ψ) i k = met_at t φ i k || met_at t ψ (i + size φ) k
met_at t (alt φ ψ) i k = met_at t φ i k || met_at t ψ (i + size φ) k
met_at t (star φ) i k = met_at t φ i k

-- `Each f l w`: the lists are equally long, and f holds of their first elements, of their second elements, and so on
pub data Each {A B : Type 0} (f : A → B → Bool) : List A → List B → Type 0 where
  each_none : Each f [] []
  each_more : {a : A} {b : B} {l : List A} {w : List B} → f a b ≡ true → Each f l w → Each f (a ∷ l) (b ∷ w)
