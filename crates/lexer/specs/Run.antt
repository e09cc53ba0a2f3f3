-- The longest run of elements that pass a test, and what is left after it.
-- Assumes nothing.
use Rattle.std.specs.Prelude.{ℕ, Bool, cond, List, [], ◌∷◌}

-- "a longest run": the bytes up to the first that fails
unfoldable pub run : (ℕ → Bool) → List ℕ → List ℕ
run p [] = []
run p (b ∷ s) = cond (p b) (b ∷ run p s) []

-- the bytes from that one on
unfoldable pub after : (ℕ → Bool) → List ℕ → List ℕ
after p [] = []
after p (b ∷ s) = cond (p b) (after p s) (b ∷ s)
