-- `in_order` meets its contract: refused, no rule yet, no role more, or a role after a rule.
-- Assumes nothing.
use Rattle.std.proofs.Common.{sym, ap, ◌∙◌, eqb-true, false-eqb}
use Rattle.common.specs.Refusals.{answer_number}
use Rattle.snapshot.proofs.LineLaws.{in_order_first, in_order_same, in_order_late}
use Rattle.snapshot.proofs.lines.in_order.Goals as goal
use Rattle.snapshot.proofs.lines.in_order.Goals.{then-rules-eq0, else-rules-eq0}

pub returns-then-state-roles : goal.returns-then-state-roles
returns-then-state-roles c =
    elim c.if-rules-eq0.branch [
      | then-rules-eq0 w ↦ in_order_first _ _ _ c.declare.ensures (ap answer_number c.in_ok-declare.was) w.if-rules-eq0.true
      | else-rules-eq0 w ↦ in_order_same _ _ _ c.declare.ensures (ap answer_number c.in_ok-declare.was) (eqb-true _ _ (sym w.value-is ∙ c.if-state-roles.true))
    ]

pub returns-else-state-roles : goal.returns-else-state-roles
returns-else-state-roles c =
    elim c.if-rules-eq0.branch [
      | then-rules-eq0 w ↦ absurd (false-eqb _ _ (sym c.if-state-roles.false ∙ w.value-is) w.if-rules-eq0.true)
      | else-rules-eq0 w ↦ in_order_late _ _ _ c.declare.ensures _ w.if-rules-eq0.false (false-eqb _ _ (sym c.if-state-roles.false ∙ w.value-is))
    ]
