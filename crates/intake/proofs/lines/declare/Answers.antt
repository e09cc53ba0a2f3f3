-- `declare` meets its contract, by the kind of the line.
-- Assumes nothing.
use Rattle.std.proofs.Common.{rules, ◌≡◌, refl, sym, ◌∙◌, length}
use Rattle.intake.specs.Represents.{SheetSized, Sized}
use Rattle.intake.proofs.RoleLaws.{role-declared}
use Rattle.intake.proofs.RuleLaws.{rule-declared}
use Rattle.intake.proofs.LineLaws.{line-role, line-rule, line_neither}
use Rattle.follow.specs.declared.state.State.{State}
use Rattle.intake.proofs.lines.declare.Goals as goal

-- the arrays' lengths, by their types
sized : (f : State) → SheetSized f.sheet → length f.positions ≡ 32 → Sized f
sized f s p = record { names = s.names; parents = s.parents; above = s.above; rule-names = s.rule-names; ends = s.ends; rows = s.rows; positions = p }

pub returns-in-Some-Role : goal.returns-in-Some-Role
returns-in-Some-Role c =
    line-role _ _ _ (rw c.in-Some-Role.field-0-is at (sym c.line_kind.ensures ∙ c.in-Some-Role.is))
    (role-declared c.args.state.now (sized _ c.role_names-names.ensures.sized (search rules)) _ _ (rw c.role_names-names.ensures.names at c.role_line-line.ensures) _ c.declare_role.ensures)

pub returns-in-Some-Rule : goal.returns-in-Some-Rule
returns-in-Some-Rule c =
    line-rule _ _ _ (rw c.in-Some-Rule.field-0-is at (sym c.line_kind.ensures ∙ c.in-Some-Rule.is))
    (rule-declared c.args.state.now (sized _ c.role_names-names.ensures.sized (search rules)) _ _ (rw c.role_names-names.ensures.names at c.rule_line-line.ensures) _ c.declare_rule.ensures)

pub returns-in-None : goal.returns-in-None
returns-in-None c = line_neither _ _ _ (sym c.line_kind.ensures ∙ c.in-None.is) refl
