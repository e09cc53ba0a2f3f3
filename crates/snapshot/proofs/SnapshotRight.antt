-- Keeping and restoring, by what the functions promise: the results are those of the machine with positions, and the monitor left represents the machine left.
-- Assumes nothing.
use Rattle.std.proofs.Common.{◌≡◌, sym, ap, ◌∙◌, subst, List, ℕ}
use Rattle.std.proofs.Math.Option.{Option, none, some}
use Rattle.follow.specs.declared.state.State.{State}
use Rattle.intake.specs.Machine.{PositionMachine}
use Rattle.intake.specs.Represents.{Represents}
use Rattle.book.specs.Restoring.{restored}
use Rattle.book.specs.Operations.{keep, restore, kept, replaced, kept_in, restored_or, machine_operate}
use Rattle.snapshot.specs.Written.{KeptAs}
use Rattle.snapshot.specs.Reading.{RestoredAs, RestoredBy}
use Rattle.snapshot.proofs.StateImage.{image_of_state}

pub keep-represents : (m m' : State) (lent : List ℕ) (n k : ℕ) (b : List ℕ) (t : PositionMachine) → Represents m t → KeptAs m lent n k b m'
    → (kept n k b ≡ (machine_operate t (keep lent)).1) × Represents m' (machine_operate t (keep lent)).0
keep-represents m m' lent n k b t rep h =
    (h.result ∙ ap (λ (image : List ℕ). kept_in image lent) (image_of_state m t rep), subst (λ (x : State). Represents x t) (sym h.monitor) rep)

pub restore-represents : (m m' : State) (image : List ℕ) (n : ℕ) (t : PositionMachine) → Represents m t → RestoredBy m image n m'
    → (replaced n ≡ (machine_operate t (restore image)).1) × Represents m' (machine_operate t (restore image)).0
restore-represents m m' image n t rep h = go (restored image) h.right
  where
    go : (o : Option PositionMachine) → RestoredAs m o (record { number = n; monitor = m' }) → (replaced n ≡ (restored_or t o).1) × Represents m' (restored_or t o).0
    go none e = (ap (λ r. replaced r.number) e, subst (λ (x : State). Represents x t) (sym (ap (λ r. r.monitor) e)) rep)
    go (some u) e = (ap replaced e.0, e.1)
