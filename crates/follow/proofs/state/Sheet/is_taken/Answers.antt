-- `is_taken` meets its contract: among the roles, and then among the rules.
-- Assumes nothing.
use Rattle.std.proofs.Common.{sym, ◌∙◌}
use Rattle.follow.proofs.StateLaws.{taken-role, taken-rule}
use Rattle.follow.proofs.state.Sheet.is_taken.Goals as goal

pub returns-then-named : goal.returns-then-named
returns-then-named c = c.if-named.true ∙ taken-role _ _ _ _ _ (sym c.if-named.true ∙ c.named.ensures)

pub returns-else-named : goal.returns-else-named
returns-else-named c = taken-rule _ _ _ _ _ _ (sym c.if-named.false ∙ c.named.ensures) c.named-else-named.ensures
