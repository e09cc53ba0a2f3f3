-- `stand_operations` runs the operations where kinds and sizes fit, and otherwise turns them away with nothing written.
-- Assumes nothing.
use Rattle.std.proofs.Common.{sym, ◌∙◌}
use Rattle.stand.proofs.KindLaws.{operations_fit_told, operations_refused, operations_taken}
use Rattle.stand.proofs.stand_operations.Goals as goal

pub returns-then-not-operations_fit : goal.returns-then-not-operations_fit
returns-then-not-operations_fit c = rw (c.from.ensures, c.number.ensures) (operations_refused _ _ _ _ _ _ _ (sym c.operations_fit.ensures ∙ c.if-not-operations_fit.true))

pub run-requires : goal.run-requires
run-requires c = (operations_fit_told _ _ _ _ _ _ _ (sym c.operations_fit.ensures ∙ c.if-not-operations_fit.false)).sizes

pub returns : goal.returns
returns c = operations_taken _ _ _ _ _ _ _ _ _ _ (operations_fit_told _ _ _ _ _ _ _ (sym c.operations_fit.ensures ∙ c.if-not-operations_fit.false)) c.run.ensures
