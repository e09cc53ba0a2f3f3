-- What every writer promises: its bytes laid over a lent buffer from a place on, as far as there is room.
-- Assumes nothing.
use Rattle.std.specs.Prelude.{◌≡◌, List, ◌++◌, ℕ, ◌+◌, ◌-◌, length, take, drop}

-- what of the bytes w a buffer has room for from `at` on
abbrev pub fitting : ℕ → List ℕ → List ℕ → List ℕ
fitting at w lent = take (length lent - at) w

-- the buffer with these laid over those that stood there
unfoldable pub laid : ℕ → List ℕ → List ℕ → List ℕ
laid at w lent = take at lent ++ fitting at w lent ++ drop (at + length (fitting at w lent)) lent

-- the bytes w written from `at` on: the buffer as lent and as left, and r, the place after what was written
pub record Writes (at : ℕ) (w lent left : List ℕ) (r : ℕ) : Type 0 where
  pub bytes : left ≡ laid at w lent
  pub next : r ≡ at + length (fitting at w lent)
