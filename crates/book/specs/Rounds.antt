-- Rounds: the calls of a host that holds the monitor as an image and nothing else. Document 02, C-13: "Its calls lend an image, a tray of records and a reply buffer, and the
-- image is rewritten for the monitor afterwards." A round is one such call.
-- Assumes nothing.
use Rattle.std.specs.Prelude.{Bool, true, false, cond, ◌&&◌, List, [], ◌∷◌, ◌++◌, ℕ, zero, suc, ◌*◌, ◌/◌, eqb, leb, length, take, drop}
use Rattle.std.proofs.Math.Option.{Option, none, some}
use Rattle.common.specs.Limits.{record_size}
use Rattle.book.specs.Decide.{Call, Answer}
use Rattle.book.specs.Book.{Book, book_step}
use Rattle.book.specs.MachineSteps.{PositionMachine, machine_step}
use Rattle.book.specs.Batches.{batch_fits, batch_calls, batch_taken, run_batch}
use Rattle.book.specs.Images.{image_of}
use Rattle.book.specs.Restoring.{restored}
use Rattle.book.specs.Operations.{calls_by, batch}

-- WHAT A HOST LENDS

-- "The image buffer has 127 records"
abbrev pub room_records : ℕ
room_records = 127

-- what a host holds between its calls: the image buffer, and "the used number": how many of its records are the image
pub record HostImage : Type 0 where
  pub buffer : List ℕ
  pub used : ℕ

-- "a tray of records and a reply buffer", as lent: any bytes, of any lengths
pub record LentBatch : Type 0 where
  pub records : List ℕ
  pub replies : List ℕ

-- the image: the used records
abbrev pub used_records : HostImage → List ℕ
used_records h = take (h.used * record_size) h.buffer

-- THE REFUSALS, IN THE ORDER CHECKED

-- the opposite of "An image buffer of another size, or a used number above its records": "127 records (16,256 bytes)"
unfoldable pub room_fits : ℕ → ℕ → Bool
room_fits n used = eqb n (room_records * record_size) && leb used room_records

-- whether an image says a machine
abbrev pub is_said : Option PositionMachine → Bool
is_said none = false
is_said (some m) = true

-- "An image buffer of another size, or a used number above its records, is 13 and is looked at first; then come 12 and 11.": what must hold, and the number where it does not
abbrev pub checks : HostImage → LentBatch → List (Bool × ℕ)
checks h t = (room_fits (length h.buffer) h.used, 13) ∷ (is_said (restored (used_records h)), 12) ∷ (batch_fits t.records t.replies, 11) ∷ []

-- the number of the first that does not hold; 0 where all do
abbrev pub first_failing : List (Bool × ℕ) → ℕ
first_failing [] = 0
first_failing ((q, n) ∷ cs) = cond q (first_failing cs) n

-- WHAT COMES OF IT

-- "Each of these three leaves all three buffers as lent and hands back the used number as it was passed." (The records are lent to be read only.)
abbrev pub round_refused : ℕ → HostImage → LentBatch → HostImage × Answer
round_refused n h t = (h, record { number = n; buffer = t.replies })

-- keeping, into the image buffer: "Image bytes past the used records stay."
abbrev pub rewritten : HostImage → PositionMachine → HostImage
rewritten h m = record { buffer = image_of m ++ drop (length (image_of m)) h.buffer; used = length (image_of m) / record_size }

-- "The outcome is that of returning to the image, running the tray and keeping.": on the machine m that the image says
abbrev pub round_taken : PositionMachine → HostImage → LentBatch → HostImage × Answer
round_taken m h t =
    let x = batch_taken machine_step m (batch_calls t.records t.replies) in
    (rewritten h x.0, x.1)

-- by the number of the refusal; an image that says no machine is refused before
abbrev pub round_by : ℕ → Option PositionMachine → HostImage → LentBatch → HostImage × Answer
round_by zero none h t = round_refused 12 h t
round_by zero (some m) h t = round_taken m h t
round_by (suc n) o h t = round_refused (suc n) h t

-- A round: what the host holds after it, the number, and the reply buffer. It takes nothing but what is lent.
unfoldable pub round_step : HostImage → LentBatch → HostImage × Answer
round_step h t = round_by (first_failing (checks h t)) (restored (used_records h)) h t

-- THE PLAIN BOOK FED WITH BATCHES

-- one batch: its records one by one, or 11 and the book as it was
abbrev pub feed : Book → LentBatch → Book × Answer
feed b t = run_batch book_step b t.records t.replies

-- the single calls of all batches that are taken, in a row
abbrev pub calls_in_row : List LentBatch → List Call
calls_in_row [] = []
calls_in_row (t ∷ ts) = calls_by (batch t.records t.replies) ++ calls_in_row ts

-- the reply bytes of a batch that is taken; one that is refused has none
abbrev pub taken_bytes : ℕ → List ℕ → List ℕ
taken_bytes zero b = b
taken_bytes (suc n) b = []

-- of an answer, by its number
abbrev pub reply_taken : Answer → List ℕ
reply_taken a = taken_bytes a.number a.buffer

-- and of all that are taken, one after the other
abbrev pub replies_taken : List Answer → List ℕ
replies_taken [] = []
replies_taken (a ∷ xs) = reply_taken a ++ replies_taken xs
