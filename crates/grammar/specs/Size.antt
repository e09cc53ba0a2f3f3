-- How many patterns a past has: "a bracketed condition counts as one".
-- Assumes nothing.
use Rattle.std.specs.Prelude.{ℕ, ◌+◌}
use Rattle.grammar.specs.Trees.{Past, only, either, Sequence, single, beside, Factor, starred, Base, pattern, nothing, group}

unfoldable mutual
  -- stars and round brackets add none
  pub size_past : {N : Type 0} → Past N → ℕ
  size_past (only q) = size_sequence q
  size_past (either q p) = size_sequence q + size_past p

  pub size_sequence : {N : Type 0} → Sequence N → ℕ
  size_sequence (single c) = size_factor c
  size_sequence (beside c q) = size_factor c + size_sequence q

  pub size_factor : {N : Type 0} → Factor N → ℕ
  size_factor (starred b n) = size_base b

  pub size_base : {N : Type 0} → Base N → ℕ
  size_base (pattern p) = 1
  size_base nothing = 0
  size_base (group p) = size_past p
