-- `declare_role` meets its contract: a law of StateLaws for each answer.
-- Assumes nothing.
use Rattle.std.proofs.Common.{refl, sym, ◌∙◌}
use Rattle.follow.proofs.StateLaws.{role_5, role_6, role_above, role_8, role_0}
use Rattle.follow.proofs.CappedLaws.{capped-min}
use Rattle.follow.proofs.state.State.declare_role.Goals as goal

pub returns-then-is_taken : goal.returns-then-is_taken
returns-then-is_taken c = role_5 _ _ (sym c.if-is_taken.true ∙ c.is_taken.ensures)

pub returns-in_default : goal.returns-in_default
returns-in_default c = role_6 _ _ (sym c.if-is_taken.false ∙ c.is_taken.ensures) _ refl c.in_default.is

pub returns-then-min-parent : goal.returns-then-min-parent
returns-then-min-parent c = role_above _ _ (sym c.if-is_taken.false ∙ c.is_taken.ensures) _ (c.min.ensures ∙ capped-min _ _) _ c.in-Some.is c.if-min-parent.true

pub returns-then-at-ge-MAX_ROLES : goal.returns-then-at-ge-MAX_ROLES
returns-then-at-ge-MAX_ROLES c = role_8 _ _ (sym c.if-is_taken.false ∙ c.is_taken.ensures) _ (c.min.ensures ∙ capped-min _ _) _ c.in-Some.is c.if-min-parent.false c.if-at-ge-MAX_ROLES.true

pub returns : goal.returns
returns c = rw c.single.ensures (role_0 _ _ (sym c.if-is_taken.false ∙ c.is_taken.ensures) _ (c.min.ensures ∙ capped-min _ _) _ c.in-Some.is c.if-min-parent.false c.if-at-ge-MAX_ROLES.false)
