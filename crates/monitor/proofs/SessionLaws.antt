-- Single calls in turn, by what `handle` promises: the answers are those of the machine with positions, and the monitor left represents the machine left.
-- Assumes nothing.
use Rattle.std.proofs.Common.{◌≡◌, sym, List}
use Rattle.follow.specs.declared.state.State.{State}
use Rattle.book.specs.Decide.{Call, Answer}
use Rattle.book.specs.MachineSteps.{PositionMachine, machine_step}
use Rattle.book.specs.Session.{answers, left}
use Rattle.book.proofs.Runs.{run-answers, run-leaves}
use Rattle.intake.specs.Represents.{Represents}
use Rattle.monitor.specs.Sessions.{HandledAs, Session}

-- one call
pub call-represents : (m m' : State) (c : Call) (a : Answer) (t : PositionMachine) → Represents m t → HandledAs m c a m' → (a ≡ (machine_step t c).1) × Represents m' (machine_step t c).0
call-represents m m' c a t rep h = let r = h.right t rep in (sym r.answered, r.monitor)

-- a list of them
pub session-answers : (m m' : State) (t : PositionMachine) (cs : List Call) (xs : List Answer) → Represents m t → Session m cs xs m' → xs ≡ answers machine_step t cs
session-answers m m' t cs xs rep run = run-answers HandledAs machine_step Represents call-represents t rep run

pub session-represents : (m m' : State) (t : PositionMachine) (cs : List Call) (xs : List Answer) → Represents m t → Session m cs xs m' → Represents m' (left machine_step t cs)
session-represents m m' t cs xs rep run = run-leaves HandledAs machine_step Represents call-represents t rep run
