-- A past's tree and its meaning have equally many patterns.
-- Assumes nothing.
use Rattle.std.proofs.Common.{◌≡◌, refl, ◌∙◌, ℕ, zero, suc}
use Rattle.grammar.specs.Trees.{Pattern, Past, only, either, Sequence, single, beside, Factor, starred, Base, pattern, nothing, group}
use Rattle.grammar.specs.Size.{size_past, size_sequence, size_factor, size_base}
use Rattle.positions.specs.Past as meaning
use Rattle.positions.specs.Numbers.{size}
use Rattle.follow.specs.Meaning.{stars_on, past_meaning, sequence_meaning, factor_meaning, base_meaning}

module _ {N : Type 0} where
  stars_size : (n : ℕ) (φ : meaning.Past (Pattern N)) → size (stars_on n φ) ≡ size φ
  stars_size zero φ = refl
  stars_size (suc n) φ = stars_size n (meaning.star φ)

  mutual
    unfolding past_meaning sequence_meaning factor_meaning base_meaning size_past size_sequence size_factor size_base

    pub size_meaning : (p : Past N) → size (past_meaning p) ≡ size_past p
    size_meaning (only q) = size_sequence_lem q
    size_meaning (either q p) = rw (size_sequence_lem q, size_meaning p) refl

    size_sequence_lem : (q : Sequence N) → size (sequence_meaning q) ≡ size_sequence q
    size_sequence_lem (single c) = size_factor_lem c
    size_sequence_lem (beside c q) = rw (size_factor_lem c, size_sequence_lem q) refl

    size_factor_lem : (c : Factor N) → size (factor_meaning c) ≡ size_factor c
    size_factor_lem (starred b n) = stars_size n (base_meaning b) ∙ size_base_lem b

    size_base_lem : (b : Base N) → size (base_meaning b) ≡ size_base b
    size_base_lem (pattern p) = refl
    size_base_lem nothing = refl
    size_base_lem (group p) = size_meaning p
