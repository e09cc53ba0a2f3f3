-- A past as Appendix A has it, from its tree. Document 01, "The rule language".
-- Assumes nothing.
use Rattle.std.specs.Prelude.{ℕ, zero, suc}
use Rattle.grammar.specs.Trees as trees
use Rattle.grammar.specs.Trees.{Pattern, only, either, single, beside, starred, pattern, nothing, group}
use Rattle.positions.specs.Past.{Past, pat, empty, seq, alt, star}

-- "a base followed by any number of `*` (zero or more times)"
abbrev pub stars_on : {N : Type 0} → ℕ → Past (Pattern N) → Past (Pattern N)
stars_on zero φ = φ
stars_on (suc n) φ = stars_on n (star φ)

unfoldable mutual
  -- "one or more sequences joined by `+` (either)"
  pub past_meaning : {N : Type 0} → trees.Past N → Past (Pattern N)
  past_meaning (only q) = sequence_meaning q
  past_meaning (either q p) = alt (sequence_meaning q) (past_meaning p)

  -- "one or more factors side by side"
  pub sequence_meaning : {N : Type 0} → trees.Sequence N → Past (Pattern N)
  sequence_meaning (single c) = factor_meaning c
  sequence_meaning (beside c q) = seq (factor_meaning c) (sequence_meaning q)

  -- "a base followed by any number of `*` (zero or more times)"
  pub factor_meaning : {N : Type 0} → trees.Factor N → Past (Pattern N)
  factor_meaning (starred b n) = stars_on n (base_meaning b)

  -- "a pattern, or `()` (the empty list), or a past in round brackets"
  pub base_meaning : {N : Type 0} → trees.Base N → Past (Pattern N)
  base_meaning (pattern p) = pat p
  base_meaning nothing = empty
  base_meaning (group p) = past_meaning p
