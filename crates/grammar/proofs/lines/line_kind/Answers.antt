-- `line_kind` answers which kind of line the text says: a rule line, else a role line, else neither.
use Rattle.std.proofs.Common.{sym, ◌∙◌}
use Rattle.grammar.proofs.Shapes.{kind-rule, kind-role, kind_neither}
use Rattle.grammar.proofs.lines.line_kind.Goals as goal

pub returns-then-is_rule : goal.returns-then-is_rule
returns-then-is_rule c = sym (kind-rule _ (sym c.is_rule.ensures ∙ c.if-is_rule.true))

pub returns-then-is_role : goal.returns-then-is_role
returns-then-is_role c = sym (kind-role _ (sym c.is_rule.ensures ∙ c.if-is_rule.false) (sym c.is_role.ensures ∙ c.if-is_role.true))

pub returns : goal.returns
returns c = sym (kind_neither _ (sym c.is_rule.ensures ∙ c.if-is_rule.false) (sym c.is_role.ensures ∙ c.if-is_role.false))
