-- A batch: many records in one call. Document 02, C-11: "A tray of records in one call."
-- Assumes nothing.
use Rattle.std.specs.Prelude.{◌≡◌, Bool, true, false, ◌&&◌, List, [], ◌∷◌, ◌++◌, ℕ, zero, suc, ◌*◌, ◌/◌, ◌%◌, ◌≤◌, eqb, leb, length, take, drop}
use Rattle.common.specs.Limits.{record_size, reply_size}
use Rattle.book.specs.Decide.{Call, Answer}
use Rattle.book.specs.Session.{answers, left}

-- "n from 0 to 512"
abbrev pub max_batch : ℕ
max_batch = 512

-- "lends a buffer of n records and one of n replies, n from 0 to 512"
pub record BatchOf (n : ℕ) (s b : List ℕ) : Type 0 where
  pub few : n ≤ max_batch
  pub records : length s ≡ n * record_size
  pub replies : length b ≡ n * reply_size

-- The same as a test of the two lengths; false is "11, record buffer not whole records, over 512 of them, or reply buffer not 50 bytes for each"
unfoldable pub sizes_fit : ℕ → ℕ → Bool
sizes_fit n m = eqb (n % record_size) 0 && (leb (n / record_size) max_batch && eqb m (n / record_size * reply_size))

-- Whether the buffers are a batch. `fits_exactly` of proofs/Batches.antt: exactly where they are one of some n.
abbrev pub batch_fits : List ℕ → List ℕ → Bool
batch_fits s b = sizes_fit (length s) (length b)

-- "n single calls in the same order", each with "its own 50 bytes of the lent reply buffer"
abbrev pub calls_in : ℕ → List ℕ → List ℕ → List Call
calls_in zero s b = []
calls_in (suc n) s b = record { bytes = take record_size s; buffer = take reply_size b } ∷ calls_in n (drop record_size s) (drop reply_size b)

-- the calls of a batch
abbrev pub batch_calls : List ℕ → List ℕ → List Call
batch_calls s b = calls_in (length s / record_size) s b

-- the reply buffers after the calls, one after the other
abbrev pub buffers : List Answer → List ℕ
buffers [] = []
buffers (x ∷ xs) = x.buffer ++ buffers xs

-- "Replies and monitor must be those of n single calls in the same order."; the number is 0, whatever the replies say
abbrev pub batch_taken : {S : Type 0} → (S → Call → S × Answer) → S → List Call → S × Answer
batch_taken step m cs = (left step m cs, record { number = 0; buffer = buffers (answers step m cs) })

-- "Turned away: 11, .. looked at first, both buffers untouched."
abbrev pub batch_by : {S : Type 0} → Bool → (S → Call → S × Answer) → S → List ℕ → List ℕ → S × Answer
batch_by true step m s b = batch_taken step m (batch_calls s b)
batch_by false step m s b = (m, record { number = 11; buffer = b })

-- a batch, of any machine with single calls
abbrev pub run_batch : {S : Type 0} → (S → Call → S × Answer) → S → List ℕ → List ℕ → S × Answer
run_batch step m s b = batch_by (batch_fits s b) step m s b
