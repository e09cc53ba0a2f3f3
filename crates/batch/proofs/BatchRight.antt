-- A batch on a monitor that represents a machine: the machine's number and buffer, and the monitor left represents the machine left.
-- Assumes nothing.
use Rattle.std.proofs.Common.{◌≡◌, refl, sym, ap, ◌∙◌, subst, Bool, true, false, List, ℕ}
use Rattle.follow.specs.declared.state.State.{State}
use Rattle.book.specs.Decide.{Answer}
use Rattle.book.specs.MachineSteps.{PositionMachine, machine_step}
use Rattle.book.specs.Batches.{batch_fits, batch_calls, buffers, batch_by, run_batch}
use Rattle.intake.specs.Represents.{Represents}
use Rattle.monitor.proofs.SessionLaws.{session-answers, session-represents}
use Rattle.monitor.specs.Handled.{Handled}
use Rattle.batch.specs.Handled.{BatchedAs}

pub batch-represents : (m m' : State) (s b : List ℕ) (a : Answer) (t : PositionMachine) → Represents m t → BatchedAs m s b a m'
    → (a ≡ (run_batch machine_step t s b).1) × Represents m' (run_batch machine_step t s b).0
batch-represents m m' s b a t rep h = go (batch_fits s b) refl
  where
    go : (q : Bool) → batch_fits s b ≡ q → (a ≡ (batch_by q machine_step t s b).1) × Represents m' (batch_by q machine_step t s b).0
    go true e =
        let k = h.taken e in
        let number = k.number in
        let replies = k.replies ∙ ap buffers (session-answers m m' t (batch_calls s b) k.answers rep k.session) in
        ((λ i. record { number = number i; buffer = replies i }), session-represents m m' t (batch_calls s b) k.answers rep k.session)
    go false e =
        let k = h.refused e in
        let number = ap (λ (r : Handled). r.number) k.is in
        let buffer = k.buffer in
        ((λ i. record { number = number i; buffer = buffer i }), subst (λ (f : State). Represents f t) (sym (ap (λ (r : Handled). r.monitor) k.is)) rep)
