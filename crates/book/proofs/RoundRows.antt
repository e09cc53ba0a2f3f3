-- A round goes exactly as C-13 says, and as restoring, running the batch and keeping in any session.
-- Assumes nothing.
use Rattle.std.proofs.Common.{◌≡◌, refl, sym, ap, ◌∙◌, subst, Bool, true, false, ◌↔◌, List, [], ◌∷◌, ℕ, ◌≤◌, ◌<◌, arith, length}
use Rattle.std.proofs.Math.Option.{Option, none, some}
use Rattle.common.proofs.Bools.{not-true, true_not_false}
use Rattle.book.specs.Decide.{Answer}
use Rattle.book.specs.MachineSteps.{PositionMachine, machine_step, machine_of}
use Rattle.book.specs.Session.{answers, left}
use Rattle.book.specs.Batches.{BatchOf, batch_fits, batch_calls, batch_taken, batch_by}
use Rattle.book.specs.Images.{image_of}
use Rattle.book.specs.Restoring.{restored}
use Rattle.book.specs.Operations.{Result, answered, kept, replaced, kept_in, restored_or}
use Rattle.book.specs.SessionBook.{SessionBook, book_operate}
use Rattle.book.specs.Rounds.{room_records, HostImage, LentBatch, used_records, room_fits, rewritten, round_refused, round_taken, round_step}
use Rattle.book.specs.RoundRows.{Room, RoundRow, row_13, row_12, row_11, row-taken, round_operations, OutcomeOf, not-restored, no-batch, all_done}
use Rattle.book.proofs.Batches.{fits_exactly}
use Rattle.book.proofs.Lasting.{left_lasting}
use Rattle.book.proofs.Accepted.{restored_lasting}
use Rattle.book.proofs.AcceptedLaws.{accepted_exactly, turned_away_exactly}
use Rattle.book.proofs.Whole.{Proper, operations_same}
use Rattle.book.proofs.RoundLaws.{room_told, room_fits_lem, by_room, by_image, by_batch, by_taking, image_fits, kept_with_room, rewritten_room}

module _ (h : HostImage) (t : LentBatch) where
  -- EXACTLY

  -- buffers of no batch
  unfit : batch_fits t.records t.replies ≡ false → (n : ℕ) → BatchOf n t.records t.replies → ⊥
  unfit e n w = true_not_false (batch_fits t.records t.replies) ((fits_exactly t.records t.replies).1 (n, w)) e

  -- the row by whether the buffers are a batch, the image being accepted;
  row_by_batch : (q : Bool) → batch_fits t.records t.replies ≡ q → room_fits (length h.buffer) h.used ≡ true → (m : PositionMachine) → restored (used_records h) ≡ some m
      → RoundRow h t (round_step h t)
  row_by_batch true e f m g =
      let w = (fits_exactly t.records t.replies).0 e in
      subst (RoundRow h t) (sym (by_taking h t f m g e)) (row-taken m w.0 (room_told h f) ((accepted_exactly (used_records h) m).0 g) w.1)
  row_by_batch false e f m g = subst (RoundRow h t) (sym (by_batch h t f m g e)) (row_11 m (room_told h f) ((accepted_exactly (used_records h) m).0 g) (unfit e))

  -- by what the image says, the sizes being right;
  row_by_image : (o : Option PositionMachine) → restored (used_records h) ≡ o → room_fits (length h.buffer) h.used ≡ true → RoundRow h t (round_step h t)
  row_by_image none g f = subst (RoundRow h t) (sym (by_image h t f g)) (row_12 (room_told h f) ((turned_away_exactly (used_records h)).0 g))
  row_by_image (some m) g f = row_by_batch (batch_fits t.records t.replies) refl f m g

  -- by the sizes
  row_by_room : (q : Bool) → room_fits (length h.buffer) h.used ≡ q → RoundRow h t (round_step h t)
  row_by_room true f = row_by_image (restored (used_records h)) refl f
  row_by_room false f = subst (RoundRow h t) (sym (by_room h t f)) (row_13 (λ r. true_not_false (room_fits (length h.buffer) h.used) (room_fits_lem h r) f))

  -- a round goes by one of the rows
  pub round_row : RoundRow h t (round_step h t)
  round_row = row_by_room (room_fits (length h.buffer) h.used) refl

  -- the row leaves no other outcome
  row_step : (x : HostImage × Answer) → RoundRow h t x → round_step h t ≡ x
  row_step x (row_13 r) = by_room h t (not-true (room_fits (length h.buffer) h.used) (λ e. r (room_told h e)))
  row_step x (row_12 r a) = by_image h t (room_fits_lem h r) ((turned_away_exactly (used_records h)).1 a)
  row_step x (row_11 m r a w) =
      by_batch h t (room_fits_lem h r) m ((accepted_exactly (used_records h) m).1 a)
      (not-true (batch_fits t.records t.replies) (λ e. let k = (fits_exactly t.records t.replies).0 e in w k.0 k.1))
  row_step x (row-taken m n r a w) = by_taking h t (room_fits_lem h r) m ((accepted_exactly (used_records h) m).1 a) ((fits_exactly t.records t.replies).1 (n, w))

  -- so the rows say exactly what comes of a round
  pub round_exactly : (x : HostImage × Answer) → (round_step h t ≡ x) ↔ RoundRow h t x
  round_exactly x = (λ e. subst (RoundRow h t) e round_row, row_step x)

  -- A number other than 0: what the host holds and the reply buffer are as they were.
  pub round_steady : ((round_step h t).1.number ≡ 0 → ⊥) → round_step h t ≡ round_refused (round_step h t).1.number h t
  round_steady = go (round_step h t) round_row
    where
      go : (x : HostImage × Answer) → RoundRow h t x → (x.1.number ≡ 0 → ⊥) → x ≡ round_refused x.1.number h t
      go x (row_13 r) z = refl
      go x (row_12 r a) z = refl
      go x (row_11 m r a w) z = refl
      go x (row-taken m n r a w) z = absurd (z refl)

  -- The number is n, a refusal's, exactly where the row of n refuses the round.
  pub refused_exactly : (n : ℕ) → 0 < n → ((round_step h t).1.number ≡ n) ↔ RoundRow h t (round_refused n h t)
  refused_exactly n pos = (refuses, λ r. ap (λ (x : HostImage × Answer). x.1.number) (row_step (round_refused n h t) r))
    where
      refuses : (round_step h t).1.number ≡ n → RoundRow h t (round_refused n h t)
      refuses e = subst (RoundRow h t) (round_steady (λ z. omega (arith, z, e, pos)) ∙ ap (λ (k : ℕ). round_refused k h t) e) round_row

  -- It is 0 exactly where the row that takes it does, by the machine that the image says.
  pub taken_exactly : ((round_step h t).1.number ≡ 0) ↔ ((m : PositionMachine) × RoundRow h t (round_taken m h t))
  taken_exactly = (takes (round_step h t) round_row, λ r. ap (λ (x : HostImage × Answer). x.1.number) (row_step (round_taken r.0 h t) r.1))
    where
      takes : (x : HostImage × Answer) → RoundRow h t x → x.1.number ≡ 0 → (m : PositionMachine) × RoundRow h t (round_taken m h t)
      takes x (row_13 r) e = absurd (omega (arith, e))
      takes x (row_12 r a) e = absurd (omega (arith, e))
      takes x (row_11 m r a w) e = absurd (omega (arith, e))
      takes x (row-taken m n r a w) e = (m, row-taken m n r a w)

  -- A used number that is handed back is the one passed, or one within the image buffer.
  pub used-within : (k : ℕ) → room_records ≤ k → h.used ≤ k → (round_step h t).0.used ≤ k
  used-within k few passed = go (round_step h t) round_row
    where
      go : (x : HostImage × Answer) → RoundRow h t x → x.0.used ≤ k
      go x (row_13 r) = passed
      go x (row_12 r a) = passed
      go x (row_11 m r a w) = passed
      go x (row-taken m n r a w) =
          let l = restored_lasting (used_records h) m ((accepted_exactly (used_records h) m).1 a) in
          let u = left machine_step m (batch_calls t.records t.replies) in
          omega (arith, few, (rewritten_room h u (left_lasting (batch_calls t.records t.replies) m l) r).within)

  -- AS OPERATIONS

  -- what restoring, the batch and keeping hand back on a machine, by what the image says and whether the buffers are a batch
  abbrev results : PositionMachine → Option PositionMachine → Bool → List Result
  results u o q =
      let m = (restored_or u o).0 in
      let x = batch_by q machine_step m t.records t.replies in
      (restored_or u o).1 ∷ answered x.1 ∷ kept_in (image_of x.0) h.buffer ∷ []

  -- the outcome by what the image says and whether the buffers are a batch
  outcome : (u : PositionMachine) → Room h → (o : Option PositionMachine) → restored (used_records h) ≡ o → (q : Bool) → batch_fits t.records t.replies ≡ q
      → OutcomeOf h t (results u o q) (round_step h t)
  outcome u r none g q e = subst (OutcomeOf h t (results u none q)) (sym (by_image h t (room_fits_lem h r) g)) (not-restored _ _)
  outcome u r (some m) g false e = subst (OutcomeOf h t (results u (some m) false)) (sym (by_batch h t (room_fits_lem h r) m g e)) (no-batch _)
  outcome u r (some m) g true e =
      let x = batch_taken machine_step m (batch_calls t.records t.replies) in
      let l = left_lasting (batch_calls t.records t.replies) m (restored_lasting (used_records h) m g) in
      let k : length (image_of x.0) ≤ length h.buffer = omega (arith, image_fits x.0 l, r.size) in
      subst (λ (s : Result). OutcomeOf h t (replaced 0 ∷ answered x.1 ∷ s ∷ []) (round_step h t)) (sym (kept_with_room (image_of x.0) h.buffer k))
      (subst (OutcomeOf h t (replaced 0 ∷ answered x.1 ∷ kept 0 (rewritten h x.0).used (rewritten h x.0).buffer ∷ [])) (sym (by_taking h t (room_fits_lem h r) m g e)) (all_done _ _ _))

  -- "The outcome is that of returning to the image, running the tray and keeping.": in whatever session that is
  pub round_operated : (s : SessionBook) → Proper s → Room h → OutcomeOf h t (answers book_operate s (round_operations h t)) (round_step h t)
  round_operated s p r =
      subst (λ (rs : List Result). OutcomeOf h t rs (round_step h t)) (operations_same (round_operations h t) s p)
      (outcome (machine_of s.book) r (restored (used_records h)) refl (batch_fits t.records t.replies) refl)
