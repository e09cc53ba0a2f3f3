-- One function for a whole condition, and for one term of it or a pattern: each answer as the one or the other.
-- Assumes nothing.
use Rattle.std.proofs.Common.{◌≡◌, Bool, true, false, List, ℕ}
use Rattle.common.proofs.Bools.{true_not_false}
use Rattle.patterns.specs.Judged.{TermRead, ConditionRead, PatternRead, JudgeRead}
use Rattle.patterns.specs.declared.judge.Judged.{Judged}

-- the second part of what falls
abbrev pub level : Bool → ℕ
level true = 1
level false = 0

module _ (above event code : List ℕ) (at : ℕ) (whole : Bool) (r : Judged) where
  pub as_condition : whole ≡ true → ConditionRead above event code at r → JudgeRead above event code at whole r
  as_condition e h = record { onwards = h.onwards; one = λ q. absurd (true_not_false whole e q); pattern = λ q. absurd (true_not_false whole e q); all = λ q. h }

  pub as_term : whole ≡ false → TermRead above event code at r → PatternRead above event code at r → JudgeRead above event code at whole r
  as_term e h g = record { onwards = h.onwards; one = λ q. h; pattern = λ q. g; all = λ q. absurd (true_not_false whole q e) }
