-- A set of numbers below 64 as a number of 64 bits: bit k says whether k is in it.
-- Assumes nothing.
use Rattle.std.specs.Prelude.{Bool, not, cond, ℕ, ◌/◌, ◌%◌, ◌^◌, eqb, ltb}
use Rattle.std.specs.Int.Bits.{bit_and}

-- k is in the set m
abbrev pub has_at : ℕ → ℕ → Bool
has_at m k = eqb (m / 2 ^ k % 2) 1

-- the set of k alone; empty where k has no bit
abbrev pub bit_of : ℕ → ℕ
bit_of k = cond (ltb k 64) (2 ^ k) 0

-- the set m where b holds, else the empty set
abbrev pub only_if : Bool → ℕ → ℕ
only_if b m = cond b m 0

-- some number is in both sets
abbrev pub shares : ℕ → ℕ → Bool
shares a b = not (eqb (bit_and a b) 0)
