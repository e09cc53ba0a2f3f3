-- The roles held as the code keeps them: top is 0; role i has the parent at i of a table, and at i of another the set of the roles above it, itself among them.
-- Assumes nothing.
use Rattle.std.specs.Prelude.{◌≡◌, Bool, List, [], ◌∷◌, ℕ, zero, suc, ◌≤◌, ◌<◌, length, get_or}
use Rattle.std.specs.Int.Bits.{bit_or}
use Rattle.common.specs.Sets.{has_at, bit_of}
use Rattle.patterns.specs.Roles.{Roles}

-- r is p or below it: p is in the set at r
unfoldable pub below_by : List ℕ → ℕ → ℕ → Bool
below_by above r p = has_at (get_or above r 0) p

-- the set of a role n that joins: its parent's, and n itself
abbrev pub joined_set : List ℕ → ℕ → ℕ → ℕ
joined_set above n parent = bit_or (get_or above parent 0) (bit_of n)

-- a table of n roles: top is 0, and every other role has its parent before it
pub record Ordered (n : ℕ) (ps : List ℕ) : Type 0 where
  pub fits : n ≤ length ps
  pub top : get_or ps 0 0 ≡ 0
  pub up : (i : ℕ) → 0 < i → i < n → get_or ps i 0 < i

-- the sets of the n roles of a table: top's has top alone, and every other role's is as when it joined under its parent
pub record Gathered (n : ℕ) (ps above : List ℕ) : Type 0 where
  pub top : get_or above 0 0 ≡ 1
  pub up : (i : ℕ) → 0 < i → i < n → get_or above i 0 ≡ joined_set above i (get_or ps i 0)

-- the roles of a table of n, with names for their ids, the last first
abbrev pub roles_of : {N : Type 0} → (ℕ → N) → List ℕ → ℕ → Roles N
roles_of nm ps zero = []
roles_of nm ps (suc n) = record { name = nm n; parent = nm (get_or ps n 0) } ∷ roles_of nm ps n
