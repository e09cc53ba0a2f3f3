-- `new` meets its contract.
-- Assumes nothing.
use Rattle.intake.proofs.FreshState.{fresh-represents}
use Rattle.monitor.proofs.calls.new.Goals as goal

pub returns : goal.returns
returns c = record { state = c.new.ensures; fresh = fresh-represents _ c.new.ensures }
