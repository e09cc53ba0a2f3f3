-- Other names leave the number of patterns as it is.
-- Assumes nothing.
use Rattle.std.proofs.Common.{◌≡◌, refl}
use Rattle.grammar.specs.Trees.{Past, only, either, Sequence, single, beside, Factor, starred, Base, pattern, nothing, group}
use Rattle.grammar.specs.Rename.{map_past, map_sequence, map_factor, map_base}
use Rattle.grammar.specs.Size.{size_past, size_sequence, size_factor, size_base}

module _ {M N : Type 0} (f : M → N) where
  mutual
    unfolding map_past map_sequence map_factor map_base size_past size_sequence size_factor size_base

    pub size-map : (p : Past M) → size_past (map_past f p) ≡ size_past p
    size-map (only q) = size_sequence_lem q
    size-map (either q p) = rw (size_sequence_lem q, size-map p) refl

    size_sequence_lem : (q : Sequence M) → size_sequence (map_sequence f q) ≡ size_sequence q
    size_sequence_lem (single c) = size_factor_lem c
    size_sequence_lem (beside c q) = rw (size_factor_lem c, size_sequence_lem q) refl

    size_factor_lem : (c : Factor M) → size_factor (map_factor f c) ≡ size_factor c
    size_factor_lem (starred b n) = size_base_lem b

    size_base_lem : (b : Base M) → size_base (map_base f b) ≡ size_base b
    size_base_lem (pattern p) = refl
    size_base_lem nothing = refl
    size_base_lem (group p) = size-map p
