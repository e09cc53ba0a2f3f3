-- Which rounds are refused by which number, and what comes of the others, in C-13's words with nothing to compute. `round_exactly` of proofs/RoundRows.antt says that `round_step`
-- gives exactly this.
-- Assumes nothing.
use Rattle.std.specs.Prelude.{◌≡◌, List, [], ◌∷◌, ℕ, ◌*◌, ◌≤◌, length}
use Rattle.common.specs.Limits.{record_size}
use Rattle.book.specs.Decide.{Answer}
use Rattle.book.specs.MachineSteps.{PositionMachine}
use Rattle.book.specs.Batches.{BatchOf}
use Rattle.book.specs.Accepted.{Accepted}
use Rattle.book.specs.Operations.{Operation, batch, keep, restore, Result, answered, kept, replaced}
use Rattle.book.specs.Rounds.{room_records, HostImage, LentBatch, used_records, round_refused, round_taken}

-- "The image buffer has 127 records (16,256 bytes), with the used number .. passed beside it": not "of another size", and not "above its records"
pub record Room (h : HostImage) : Type 0 where
  pub size : length h.buffer ≡ room_records * record_size
  pub within : h.used ≤ room_records

-- a round, and what comes of it
pub data RoundRow (h : HostImage) (t : LentBatch) : HostImage × Answer → Type 0 where
  -- "An image buffer of another size, or a used number above its records, is 13 and is looked at first"
  row_13 : (Room h → ⊥) → RoundRow h t (round_refused 13 h t)
  -- "then come 12"
  row_12 : Room h → ((m : PositionMachine) → Accepted (used_records h) m → ⊥) → RoundRow h t (round_refused 12 h t)
  -- "and 11"
  row_11 : (m : PositionMachine) → Room h → Accepted (used_records h) m → ((n : ℕ) → BatchOf n t.records t.replies → ⊥) → RoundRow h t (round_refused 11 h t)
  -- "The outcome is that of returning to the image, running the tray and keeping."
  row-taken : (m : PositionMachine) (n : ℕ) → Room h → Accepted (used_records h) m → BatchOf n t.records t.replies → RoundRow h t (round_taken m h t)

-- "returning to the image, running the tray and keeping", as operations of a session
abbrev pub round_operations : HostImage → LentBatch → List Operation
round_operations h t = restore (used_records h) ∷ batch t.records t.replies ∷ keep h.buffer ∷ []

-- their results, and the outcome: the first refusal's; else the reply buffer of the batch, and the image and the used number of keeping
pub data OutcomeOf (h : HostImage) (t : LentBatch) : List Result → HostImage × Answer → Type 0 where
  not-restored : (r s : Result) → OutcomeOf h t (replaced 12 ∷ r ∷ s ∷ []) (round_refused 12 h t)
  no-batch : (s : Result) → OutcomeOf h t (replaced 0 ∷ answered (record { number = 11; buffer = t.replies }) ∷ s ∷ []) (round_refused 11 h t)
  all_done : (b image : List ℕ) (k : ℕ)
      → OutcomeOf h t (replaced 0 ∷ answered (record { number = 0; buffer = b }) ∷ kept 0 k image ∷ []) (record { buffer = image; used = k }, record { number = 0; buffer = b })
