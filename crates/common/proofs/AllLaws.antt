-- Laws of a property of every element of a list.
-- Assumes nothing.
use Rattle.std.proofs.Common.{◌≡◌, refl, ap₂, List, [], ◌∷◌, ◌++◌, map, ℕ, zero, suc, drop}
use Rattle.common.specs.All.{All}

module _ {A : Type 0} (P : A → Type 0) where
  -- what holds of everything
  pub all_of : ((a : A) → P a) → (l : List A) → All P l
  all_of f [] = tt
  all_of f (a ∷ l) = (f a, all_of f l)

  -- two lists in a row, and each of them
  pub all_append : (k l : List A) → All P k → All P l → All P (k ++ l)
  all_append [] l h g = g
  all_append (a ∷ k) l h g = (h.0, all_append k l h.1 g)

  pub all_left : (k l : List A) → All P (k ++ l) → All P k
  all_left [] l h = tt
  all_left (a ∷ k) l h = (h.0, all_left k l h.1)

  pub all_right : (k l : List A) → All P (k ++ l) → All P l
  all_right [] l h = h
  all_right (a ∷ k) l h = all_right k l h.1

  -- an element in the middle
  pub all_at : (k : List A) (a : A) (l : List A) → All P (k ++ a ∷ l) → P a
  all_at k a l h = (all_right k (a ∷ l) h).0

  pub all_drop : (n : ℕ) (l : List A) → All P l → All P (drop n l)
  all_drop zero l h = h
  all_drop (suc n) [] h = h
  all_drop (suc n) (a ∷ l) h = all_drop n l h.1

-- more is said of each element
pub all_map : {A : Type 0} (P Q : A → Type 0) → ((a : A) → P a → Q a) → (l : List A) → All P l → All Q l
all_map P Q f [] h = h
all_map P Q f (a ∷ l) h = (f a h.0, all_map P Q f l h.1)

-- two properties at once
pub all_both : {A : Type 0} (P Q R : A → Type 0) → ((a : A) → P a → Q a → R a) → (l : List A) → All P l → All Q l → All R l
all_both P Q R f [] h k = h
all_both P Q R f (a ∷ l) h k = (f a h.0 k.0, all_both P Q R f l h.1 k.1)

module _ {A B : Type 0} where
  -- the elements' images
  pub all_mapped : (f : A → B) (P : B → Type 0) (l : List A) → All (λ a. P (f a)) l → All P (map f l)
  all_mapped f P [] h = h
  all_mapped f P (a ∷ l) h = (h.0, all_mapped f P l h.1)

  -- two functions that agree on every element
  pub map_equal : (f g : A → B) (l : List A) → All (λ a. f a ≡ g a) l → map f l ≡ map g l
  map_equal f g [] h = refl
  map_equal f g (a ∷ l) h = ap₂ ◌∷◌ h.0 (map_equal f g l h.1)
