-- `slot` meets its contract: the one way out that the laws named at the function do not close alone.
-- Assumes nothing.
use Rattle.std.proofs.Common.{arith, ltb-true}
use Rattle.chain.proofs.FillLaws.{slot_none}
use Rattle.chain.proofs.responses.slot.Goals as goal

pub returns-in_err-checked_sub-in-len1-up : goal.returns-in_err-checked_sub-in-len1-up
returns-in_err-checked_sub-in-len1-up c =
    rw c.from_residual-in_err-checked_sub-in-len1-up.ensures
    (slot_none _ _ (λ q. grind (arith, ltb-true)) (λ l. c.in_err-checked_sub-in-len1-up.ensures))
