-- A past with other names finds the same: its summary are those of the past as it was, where the patterns with other names are met as theirs are.
-- Assumes nothing.
use Rattle.std.proofs.Common.{◌≡◌, refl, ap, Bool, ℕ, zero, suc}
use Rattle.grammar.specs.Trees as trees
use Rattle.grammar.specs.Trees.{Pattern, only, either, single, beside, starred, pattern, nothing, group}
use Rattle.grammar.specs.Rename.{map_pattern, map_past, map_sequence, map_factor, map_base}
use Rattle.grammar.specs.Names.{pattern_names, past_names, sequence_names, factor_names, base_names}
use Rattle.common.specs.All.{All}
use Rattle.common.proofs.AllLaws.{all_left, all_right}
use Rattle.positions.specs.Past.{Past, star}
use Rattle.positions.specs.Summaries.{summary, pat_summary, star_summary}
use Rattle.follow.specs.Meaning.{stars_on, past_meaning, sequence_meaning, factor_meaning, base_meaning}

module _ {M N : Type 0} (f : M → N) (P : M → Type 0) (m : ℕ) (t : Pattern M → Bool) (u : Pattern N → Bool)
    (same : (p : Pattern M) → All P (pattern_names p) → u (map_pattern f p) ≡ t p) where
  stars_map : (n : ℕ) (φ : Past (Pattern M)) (ψ : Past (Pattern N)) → ((k : ℕ) → summary m u ψ k ≡ summary m t φ k) → (k : ℕ) → summary m u (stars_on n ψ) k ≡ summary m t (stars_on n φ) k
  unfolding summary
  stars_map zero φ ψ h k = h k
  stars_map (suc n) φ ψ h k = stars_map n (star φ) (star ψ) (λ j. ap star_summary (h j)) k

  mutual
    unfolding past_meaning sequence_meaning factor_meaning base_meaning map_past map_sequence map_factor map_base past_names sequence_names factor_names base_names summary

    pub summary-map : (p : trees.Past M) → All P (past_names p) → (k : ℕ) → summary m u (past_meaning (map_past f p)) k ≡ summary m t (past_meaning p) k
    summary-map (only q) h k = sequence_map q h k
    summary-map (either q p) h k =
        rw (sequence_map q (all_left P (sequence_names q) (past_names p) h) k, summary-map p (all_right P (sequence_names q) (past_names p) h) (summary m t (sequence_meaning q) k).next) refl

    sequence_map : (q : trees.Sequence M) → All P (sequence_names q) → (k : ℕ) → summary m u (sequence_meaning (map_sequence f q)) k ≡ summary m t (sequence_meaning q) k
    sequence_map (single c) h k = factor_map c h k
    sequence_map (beside c q) h k =
        rw (factor_map c (all_left P (factor_names c) (sequence_names q) h) k, sequence_map q (all_right P (factor_names c) (sequence_names q) h) (summary m t (factor_meaning c) k).next) refl

    factor_map : (c : trees.Factor M) → All P (factor_names c) → (k : ℕ) → summary m u (factor_meaning (map_factor f c)) k ≡ summary m t (factor_meaning c) k
    factor_map (starred b n) h k = stars_map n (base_meaning b) (base_meaning (map_base f b)) (λ j. base_map b h j) k

    base_map : (b : trees.Base M) → All P (base_names b) → (k : ℕ) → summary m u (base_meaning (map_base f b)) k ≡ summary m t (base_meaning b) k
    base_map (pattern p) h k = ap (λ (q : Bool). pat_summary m q k) (same p h)
    base_map nothing h k = refl
    base_map (group p) h k = summary-map p h k
