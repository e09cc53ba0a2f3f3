-- What is left and what is still to take stay in step.
-- Assumes nothing.
use Rattle.std.proofs.Common.{◌≡◌, ◌+◌, drop}
use Rattle.stand.specs.Calls.{total}
use Rattle.stand.proofs.sizes.fits.Given as goal

abbrev pub invariant-loop-size : goal.invariant-loop-size
invariant-loop-size l = total l.sizes + l.left ≡ l.len + total (drop l.size-index l.sizes)
