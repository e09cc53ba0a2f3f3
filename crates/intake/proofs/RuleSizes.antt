-- The past of a rule that a sheet has is within the limit, by names as by ids.
-- Assumes nothing.
use Rattle.std.proofs.Common.{sym, subst, ℕ, ◌≤◌}
use Rattle.common.specs.Limits.{max_patterns}
use Rattle.grammar.specs.AsRead.{Past}
use Rattle.grammar.specs.Size.{size_past}
use Rattle.grammar.proofs.RenameLaws.{size-map}
use Rattle.follow.specs.declared.state.Sheet.{Sheet}
use Rattle.intake.specs.Names.{Rule}
use Rattle.intake.specs.Represents.{name_at, RuleIs}

-- its past has at most 63 patterns
pub rule-small : (s : Sheet) (k : ℕ) (r : Rule) → RuleIs s k r → size_past r.past ≤ max_patterns
rule-small s k r x = subst (λ (p : Past). size_past p ≤ max_patterns) (sym x.past) (subst (λ (n : ℕ). n ≤ max_patterns) (sym (size-map (name_at s) x.tree.past)) x.small)
