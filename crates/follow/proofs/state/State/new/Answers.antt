-- `new` meets its contract: `top` is packed as the definition packs it.
-- Assumes nothing.
use Rattle.std.proofs.Common.{ap, ℕ, replicate}
use Rattle.follow.specs.State.{sheet_with}
use Rattle.follow.proofs.state.State.new.Goals as goal

pub returns : goal.returns
returns c = ap (λ (n : ℕ). record { sheet = sheet_with n; positions = replicate 32 0 }) c.pack.ensures
