-- The four ways through a round, by what the functions promise that it calls.
-- Assumes nothing.
use Rattle.std.proofs.Common.{◌≡◌, refl, sym, ap, ◌∙◌, subst, Bool, true, false, List, [], ◌++◌, ℕ, ◌*◌, ◌/◌, ◌≤◌, arith, length, take, drop}
use Rattle.std.proofs.Math.Option.{Option, none, some}
use Rattle.common.specs.Limits.{record_size}
use Rattle.follow.specs.declared.state.State.{State}
use Rattle.intake.specs.Represents.{Represents}
use Rattle.book.specs.Decide.{Answer}
use Rattle.book.specs.MachineSteps.{PositionMachine, machine_step}
use Rattle.book.specs.Session.{left}
use Rattle.book.specs.Batches.{batch_fits, batch_calls, batch_by}
use Rattle.book.specs.Images.{image_of}
use Rattle.book.specs.Restoring.{restored}
use Rattle.book.specs.Operations.{Result, answered, kept, replaced, kept_in}
use Rattle.book.specs.Rounds.{HostImage, LentBatch, room_fits, rewritten}
use Rattle.book.proofs.Lasting.{Lasting, left_lasting}
use Rattle.book.proofs.Accepted.{restored_lasting}
use Rattle.book.proofs.RoundLaws.{room_told, by_room, by_image, by_batch, by_taking, image_fits, kept_with_room}
use Rattle.monitor.specs.Handled.{Handled}
use Rattle.batch.specs.Handled.{BatchHandles}
use Rattle.batch.proofs.BatchRight.{batch-represents}
use Rattle.common.specs.Refusals.{refusal_number, answer_number}
use Rattle.common.specs.declared.refusals.Refusal.{Refusal}
use Rattle.common.proofs.RefusalLaws.{refusal_some}
use Rattle.std.specs.Prelude.{Result as Answered, Ok, Err, IsErrAnd}
use Rattle.snapshot.specs.Written.{Kept, Keeps, count_written}
use Rattle.snapshot.specs.Reading.{RestoredAs, Restores}
use Rattle.snapshot.proofs.Exactly.{keep_with_room}
use Rattle.snapshot.proofs.StateImage.{image_of_state}
use Rattle.round.specs.Running.{round_end, RoundRuns}

-- THE IMAGE BUFFER

module _ (image : List ℕ) (used : ℕ) (fits : room_fits (length image) used ≡ true) where
  -- the used records stand within the buffer
  pub used_within : used * record_size ≤ length image
  used_within = let r = room_told (record { buffer = image; used = used }) fits in omega (arith, r.size, r.within)

  -- and an image buffer of that size has room for every image
  room_whole : 127 * record_size ≤ length image
  room_whole = let r = room_told (record { buffer = image; used = used }) fits in omega (arith, r.size)

-- WHAT IS HANDED BACK

module _ (image : List ℕ) (used : ℕ) (records replies imageAfter repliesAfter : List ℕ) (x : Answered ℕ Refusal) where
  -- a refusal is handed back, by its number
  refused_end : (e : Refusal) → IsErrAnd x (λ y. y ≡ e) → (n : ℕ) → refusal_number e ≡ n → RoundRuns image used records replies imageAfter repliesAfter (record { number = n; used = used })
      → RoundRuns image used records replies imageAfter repliesAfter (round_end used x)
  refused_end e h n k runs = go x h
    where
      go : (y : Answered ℕ Refusal) → IsErrAnd y (λ z. z ≡ e) → RoundRuns image used records replies imageAfter repliesAfter (round_end used y)
      go (Ok a) q = absurd q
      go (Err z) q =
          let w : n ≡ refusal_number z = sym (ap refusal_number q ∙ k) in
          subst (λ (j : ℕ). RoundRuns image used records replies imageAfter repliesAfter (record { number = j; used = used })) w runs

  -- or the new used number, where keeping was not refused
  taken_end : answer_number x ≡ 0 → RoundRuns image used records replies imageAfter repliesAfter (record { number = 0; used = count_written x })
      → RoundRuns image used records replies imageAfter repliesAfter (round_end used x)
  taken_end z runs = go x z runs
    where
      go : (y : Answered ℕ Refusal) → answer_number y ≡ 0 → RoundRuns image used records replies imageAfter repliesAfter (record { number = 0; used = count_written y })
          → RoundRuns image used records replies imageAfter repliesAfter (round_end used y)
      go (Ok n) q h = h
      go (Err e) q h = absurd (refusal_some e q)

-- KEEPING WITH ROOM

-- the count and the buffer of keeping
abbrev count_of : Result → ℕ
count_of (answered a) = 0
count_of (kept n k b) = k
count_of (replaced n) = 0

abbrev buffer_of : Result → List ℕ
buffer_of (answered a) = []
buffer_of (kept n k b) = b
buffer_of (replaced n) = []

module _ (f : State) (image after : List ℕ) (k : Kept) (h : Keeps f image after k) (u : PositionMachine) (r : Represents f u) (room : length (image_of u) ≤ length image) where
  -- what is kept of a monitor that represents a machine, in a buffer with room for its image
  kept_image : kept k.number k.count after ≡ kept 0 (length (image_of u) / record_size) (image_of u ++ drop (length (image_of u)) image)
  kept_image = h.result ∙ ap (λ (i : List ℕ). kept_in i image) (image_of_state f u r) ∙ kept_with_room (image_of u) image room

  -- is what a host holds then
  kept-rewritten : (used : ℕ) → ◌≡◌ {A = HostImage} (record { buffer = after; used = k.count }) (rewritten (record { buffer = image; used = used }) u)
  kept-rewritten used = let b = ap buffer_of kept_image in let c = ap count_of kept_image in λ i. record { buffer = b i; used = c i }

-- THE FOUR WAYS

module _ (image : List ℕ) (used : ℕ) (records replies : List ℕ) where
  abbrev host : HostImage
  host = record { buffer = image; used = used }

  abbrev lent : LentBatch
  lent = record { records = records; replies = replies }

  -- the image buffer or the used number does not fit
  pub no_room : room_fits (length image) used ≡ false → RoundRuns image used records replies image replies (record { number = 13; used = used })
  no_room h = record { is = sym (by_room host lent h) }

  module _ (fits : room_fits (length image) used ≡ true) where
    module _ (f : State) (r : Handled) (reads : Restores f (take (used * record_size) image) r) where
      -- the image is not accepted: that is told, and no other refusal
      pub not_accepted : (e : Refusal) → r.number ≡ refusal_number e → (x : Answered ℕ Refusal) → IsErrAnd x (λ y. y ≡ e) → RoundRuns image used records replies image replies (round_end used x)
      not_accepted e n x h = go (restored (take (used * record_size) image)) refl reads.right
        where
          go : (o : Option PositionMachine) → restored (take (used * record_size) image) ≡ o → RestoredAs f o r → RoundRuns image used records replies image replies (round_end used x)
          go none q k =
              refused_end image used records replies image replies x e h 12 (sym n ∙ ap (λ (y : Handled). y.number) k) (record { is = sym (by_image host lent fits q) })
          go (some m) q k = absurd (refusal_some e (sym n ∙ k.0))

      -- or it is: the monitor represents the machine that it says
      accepted : r.number ≡ 0 → (m : PositionMachine) × (restored (take (used * record_size) image) ≡ some m) × Represents r.monitor m
      accepted z = go (restored (take (used * record_size) image)) refl reads.right
        where
          go : (o : Option PositionMachine) → restored (take (used * record_size) image) ≡ o → RestoredAs f o r
              → (m : PositionMachine) × (restored (take (used * record_size) image) ≡ some m) × Represents r.monitor m
          go none e k = absurd (omega (arith, z, ap (λ (x : Handled). x.number) k))
          go (some m) e k = (m, e, k.1)

      module _ (z : r.number ≡ 0) (after : List ℕ) (b : Handled) (runs : BatchHandles r.monitor records replies after b) where
        -- the other two buffers are no batch: that is told, and nothing was written
        pub no_batch : (e : Refusal) → b.number ≡ refusal_number e → (x : Answered ℕ Refusal) → IsErrAnd x (λ y. y ≡ e) → RoundRuns image used records replies image after (round_end used x)
        no_batch e n x h = go (batch_fits records replies) refl
          where
            go : (p : Bool) → batch_fits records replies ≡ p → RoundRuns image used records replies image after (round_end used x)
            go true q = absurd (refusal_some e (sym n ∙ (runs.taken q).number))
            go false q =
                let m = accepted z in
                let w = runs.refused q in
                let l = w.buffer in
                refused_end image used records replies image after x e h 11 (sym n ∙ ap (λ (y : Handled). y.number) w.is)
                record { is = (λ i. (host, record { number = 11; buffer = l i })) ∙ sym (by_batch host lent fits m.0 m.1 q) }

        -- they are one: the image is rewritten for the monitor that it leaves
        pub rewritten_after : b.number ≡ 0 → (imageAfter : List ℕ) (x : Answered ℕ Refusal) → Keeps b.monitor image imageAfter (record { number = answer_number x; count = count_written x; monitor = b.monitor })
            → RoundRuns image used records replies imageAfter after (round_end used x)
        rewritten_after y imageAfter x keeps = go (batch_fits records replies) refl
          where
            room : 127 * record_size ≤ length image
            room = room_whole image used fits

            go : (p : Bool) → batch_fits records replies ≡ p → RoundRuns image used records replies imageAfter after (round_end used x)
            go false e = absurd (omega (arith, y, ap (λ (x : Handled). x.number) (runs.refused e).is))
            go true e =
                let m = (accepted z).0 in
                let said = (accepted z).1 in
                let u = left machine_step m (batch_calls records replies) in
                let l : Lasting u = left_lasting (batch_calls records replies) m (restored_lasting (take (used * record_size) image) m said) in
                let g = subst (λ (p : Bool). (◌≡◌ {A = Answer} (record { number = b.number; buffer = after }) (batch_by p machine_step m records replies).1) × Represents b.monitor (batch_by p machine_step m records replies).0) e
                (batch-represents r.monitor b.monitor records replies (record { number = b.number; buffer = after }) m (accepted z).2 runs) in
                let i = kept-rewritten b.monitor image imageAfter _ keeps u g.1 (omega (arith, image_fits u l, room)) used in
                let a = ap (λ (w : Answer). w.buffer) g.0 in
                taken_end image used records replies imageAfter after x (keep_with_room b.monitor b.monitor image _ _ imageAfter keeps room)
                record { is = (λ j. (i j, record { number = 0; buffer = a j })) ∙ sym (by_taking host lent fits m said e) }
