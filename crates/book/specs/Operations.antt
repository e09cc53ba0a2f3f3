-- The operations of a session: what a host can do with a monitor. Each kind of operation and of result is a case here; the theorem over lists of operations
-- is said of the types as a whole, so a further kind adds a case and leaves the statement.
-- Assumes nothing.
use Rattle.std.specs.Prelude.{Bool, cond, List, [], ◌∷◌, ◌++◌, ℕ, ◌/◌, leb, length, drop}
use Rattle.std.proofs.Math.Option.{Option, none, some}
use Rattle.common.specs.Limits.{record_size}
use Rattle.book.specs.Decide.{Call, Answer}
use Rattle.book.specs.MachineSteps.{PositionMachine, machine_step}
use Rattle.book.specs.Batches.{batch_fits, batch_calls, run_batch}
use Rattle.book.specs.Images.{image_of}
use Rattle.book.specs.Restoring.{restored}

-- what a host does, with the buffers as lent: any bytes, of any lengths
pub data Operation : Type 0 where
  call : Call → Operation  -- a single call
  batch : List ℕ → List ℕ → Operation  -- the records and the reply buffer of a batch (document 02, C-11: a tray)
  keep : List ℕ → Operation  -- a buffer to keep an image in (document 02, C-12: places to return to)
  restore : List ℕ → Operation  -- an image to go back to (C-12: "Returning to an image")

-- what is handed back, with the buffers that were lent to be written
pub data Result : Type 0 where
  answered : Answer → Result  -- of a single call and of a batch: the number, and the reply buffer
  kept : ℕ → ℕ → List ℕ → Result  -- of keeping: the number, "how many records it wrote", and the buffer
  replaced : ℕ → Result  -- of restoring: the number

-- KEEPING

-- whether a lent buffer is long enough for an image
unfoldable pub keep_fits : List ℕ → List ℕ → Bool
keep_fits image lent = leb (length image) (length lent)

-- "Keeping hands back how many records it wrote, and the rest of the lent buffer is unchanged."; "13, a lent buffer too short to keep into, looked at first and untouched, 0
-- records handed back"
unfoldable pub kept_in : List ℕ → List ℕ → Result
kept_in image lent = cond (keep_fits image lent) (kept 0 (length image / record_size) (image ++ drop (length image) lent)) (kept 13 0 lent)

-- THE MACHINE WITH POSITIONS

-- "Returning to an image replaces the monitor."; "Turned away: 12, .. monitor unchanged"
abbrev pub restored_or : PositionMachine → Option PositionMachine → PositionMachine × Result
restored_or t none = (t, replaced 12)
restored_or t (some u) = (u, replaced 0)

-- one operation
abbrev pub machine_operate : PositionMachine → Operation → PositionMachine × Result
machine_operate t (call c) = ((machine_step t c).0, answered (machine_step t c).1)
machine_operate t (batch r b) = ((run_batch machine_step t r b).0, answered (run_batch machine_step t r b).1)
machine_operate t (keep lent) = (t, kept_in (image_of t) lent)
machine_operate t (restore image) = restored_or t (restored image)

-- THE CALLS OF OPERATIONS

-- the single calls that an operation makes; a batch that is refused makes none
abbrev pub calls_by : Operation → List Call
calls_by (call c) = c ∷ []
calls_by (batch r b) = cond (batch_fits r b) (batch_calls r b) []
calls_by (keep lent) = []
calls_by (restore image) = []

-- and that operations make, in order
abbrev pub calls_made : List Operation → List Call
calls_made [] = []
calls_made (o ∷ os) = calls_by o ++ calls_made os
