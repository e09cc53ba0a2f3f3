-- What keeping and restoring promise, in C-12's words and exactly: of any monitor, and of one that represents a machine.
-- Assumes nothing.
use Rattle.std.proofs.Common.{◌≡◌, refl, sym, ap, ◌∙◌, subst, ◌↔◌, List, [], ℕ, ◌*◌, ◌≤◌, arith, length, take, take_at}
use Rattle.std.proofs.Math.Option.{Option, none, some}
use Rattle.common.specs.Limits.{record_size, max_roles, max_rules}
use Rattle.follow.specs.declared.state.State.{State}
use Rattle.follow.proofs.CappedLaws.{capped_le}
use Rattle.intake.specs.Machine.{PositionMachine}
use Rattle.intake.specs.Represents.{Represents}
use Rattle.book.specs.Images.{image_of}
use Rattle.book.specs.Restoring.{restored}
use Rattle.book.specs.Accepted.{Accepted}
use Rattle.book.specs.Operations.{Result, answered, kept, replaced}
use Rattle.book.specs.KeptRows.{KeptRow, too_short, written}
use Rattle.book.proofs.Lasting.{Lasting}
use Rattle.book.proofs.Restored.{image_restored}
use Rattle.book.proofs.KeptExactly.{kept_row}
use Rattle.book.proofs.AcceptedLaws.{accepted_exactly, turned_away_exactly}
use Rattle.snapshot.specs.Written.{roles_after_top, rules_in, state_image, KeptAs}
use Rattle.snapshot.specs.Reading.{RestoredAs, RestoredBy}
use Rattle.snapshot.proofs.KeepLaws.{image_length}
use Rattle.snapshot.proofs.StateImage.{image_of_state}

-- KEEPING

-- the number of a result
abbrev number_in : Result → ℕ
number_in (answered a) = a.number
number_in (kept n k b) = n
number_in (replaced n) = n

-- Of any monitor at all: what is handed back is what C-12 says of that state's image, and the monitor is as it was.
pub keep_exactly : (m m' : State) (lent : List ℕ) (n k : ℕ) (b : List ℕ) → KeptAs m lent n k b m' → KeptRow (state_image m) lent (kept n k b) × (m' ≡ m)
keep_exactly m m' lent n k b h =
    (subst (KeptRow (state_image m) lent) (sym h.result) (kept_row (state_image m) lent _ (image_length m.sheet.names m.sheet.parents (roles_after_top m) m.sheet.rule_names m.sheet.rows m.positions (rules_in m))), h.monitor)

-- and of one that represents a machine, of that machine's image
pub keep_of_machine : (m m' : State) (lent : List ℕ) (n k : ℕ) (b : List ℕ) (t : PositionMachine) → Represents m t → KeptAs m lent n k b m' → KeptRow (image_of t) lent (kept n k b)
keep_of_machine m m' lent n k b t rep h = subst (λ (image : List ℕ). KeptRow image lent (kept n k b)) (image_of_state m t rep) (keep_exactly m m' lent n k b h).0

-- 63 roles after top, 32 rules and a record of marks for each: no image has more than 127 records, so a buffer of 16,256 bytes is never too short.
pub image_room : (m : State) → length (state_image m) ≤ 127 * record_size
image_room m =
    let e = image_length m.sheet.names m.sheet.parents (roles_after_top m) m.sheet.rule_names m.sheet.rows m.positions (rules_in m) in
    let r = capped_le max_roles m.sheet.role_count in
    let n = capped_le max_rules m.sheet.rule_count in
    omega (arith, e, r, n)

long_enough : (image lent : List ℕ) (r : Result) → KeptRow image lent r → length image ≤ length lent → number_in r ≡ 0
long_enough image lent r (too_short h) q = absurd (omega arith)
long_enough image lent r (written k rest e h d) q = refl

pub keep_with_room : (m m' : State) (lent : List ℕ) (n k : ℕ) (b : List ℕ) → KeptAs m lent n k b m' → 127 * record_size ≤ length lent → n ≡ 0
keep_with_room m m' lent n k b h q = let r = image_room m in long_enough (state_image m) lent (kept n k b) (keep_exactly m m' lent n k b h).0 (omega arith)

-- RESTORING

module _ (m m' : State) (image : List ℕ) (n : ℕ) (h : RestoredBy m image n m') where
  -- An image that says a machine is accepted, and the monitor handed back represents that machine.
  pub restore-accepts : (t : PositionMachine) → Accepted image t → (n ≡ 0) × Represents m' t
  restore-accepts t a = subst (λ (o : Option PositionMachine). RestoredAs m o (record { number = n; monitor = m' })) ((accepted_exactly image t).1 a) h.right

  -- "Turned away: 12, .. monitor unchanged": of any monitor at all
  pub restore_turns_away : ((t : PositionMachine) → Accepted image t → ⊥) → (n ≡ 12) × (m' ≡ m)
  restore_turns_away a =
      let e = subst (λ (o : Option PositionMachine). RestoredAs m o (record { number = n; monitor = m' })) ((turned_away_exactly image).1 a) h.right in
      (ap (λ r. r.number) e, ap (λ r. r.monitor) e)

  -- the number by what the image says
  by_said : (o : Option PositionMachine) → restored image ≡ o → RestoredAs m o (record { number = n; monitor = m' }) → (n ≡ 12) ↔ ((t : PositionMachine) → Accepted image t → ⊥)
  by_said none e r = (λ q. (turned_away_exactly image).0 e, λ a. ap (λ x. x.number) r)
  by_said (some t) e r = (λ q. absurd (omega (arith, q, r.0)), λ a. absurd (a t ((accepted_exactly image t).0 e)))

  -- The number is 12 exactly where no machine is said, and 0 exactly where one is.
  pub twelve_exactly : (n ≡ 12) ↔ ((t : PositionMachine) → Accepted image t → ⊥)
  twelve_exactly = by_said (restored image) refl h.right

  zero_said : (o : Option PositionMachine) → restored image ≡ o → RestoredAs m o (record { number = n; monitor = m' }) → (n ≡ 0) ↔ ((t : PositionMachine) × Accepted image t)
  zero_said none e r = (λ q. absurd (omega (arith, q, ap (λ x. x.number) r)), λ a. absurd ((turned_away_exactly image).0 e a.0 a.1))
  zero_said (some t) e r = (λ q. (t, (accepted_exactly image t).0 e), λ a. r.0)

  pub zero_exactly : (n ≡ 0) ↔ ((t : PositionMachine) × Accepted image t)
  zero_exactly = zero_said (restored image) refl h.right

-- THE ROUND TRIP

-- the records that a result of keeping has
abbrev records_in : Result → List ℕ
records_in (answered a) = a.buffer
records_in (kept n k b) = take (k * record_size) b
records_in (replaced n) = []

-- the records that keeping wrote are the image
written_front : (image lent : List ℕ) (r : Result) → KeptRow image lent r → number_in r ≡ 0 → records_in r ≡ image
written_front image lent r (too_short h) z = absurd (omega arith)
written_front image lent r (written k rest e h d) z = take_at image rest (k * record_size) e

-- What keeping wrote on a monitor that represents a machine is accepted by any monitor, and gives one that represents the same machine.
pub round_trip : (m m' : State) (lent : List ℕ) (n k : ℕ) (b : List ℕ) (t : PositionMachine) → Represents m t → Lasting t → KeptAs m lent n k b m' → n ≡ 0
    → (u u' : State) (j : ℕ) → RestoredBy u (take (k * record_size) b) j u' → (j ≡ 0) × Represents u' t
round_trip m m' lent n k b t rep last h z u u' j r =
    let e = written_front (image_of t) lent (kept n k b) (keep_of_machine m m' lent n k b t rep h) z in
    subst (λ (o : Option PositionMachine). RestoredAs u o (record { number = j; monitor = u' })) (ap restored e ∙ image_restored t last) r.right
