-- Rounds as a host makes them: buffers and numbers, and one number of 64 bits handed back.
-- Assumes nothing.
use Rattle.std.specs.Prelude.{◌≡◌, List, ℕ, ◌+◌, ◌*◌, ◌/◌, ◌%◌}
use Rattle.book.specs.Decide.{Answer}
use Rattle.book.specs.Session.{Run}
use Rattle.book.specs.Rounds.{HostImage, LentBatch, round_step}

-- one past 32 bits
abbrev pub shift : ℕ
shift = 4294967296

-- "a call returns one number of 64 bits, the refusal number (0 when taken) times 4,294,967,296 plus the used number"
abbrev pub returned_for : HostImage × Answer → ℕ
returned_for x = x.1.number * shift + x.0.used

-- what `stand_run` promises, whatever is lent: the number returned, the image buffer and the reply buffer afterwards are those of C-13's round
pub record StandRuns (image : List ℕ) (used : ℕ) (records replies imageAfter repliesAfter : List ℕ) (r : ℕ) : Type 0 where
  pub returned : r ≡ returned_for (round_step (record { buffer = image; used = used }) (record { records = records; replies = replies }))
  pub image_left : imageAfter ≡ (round_step (record { buffer = image; used = used }) (record { records = records; replies = replies })).0.buffer
  pub replies-left : repliesAfter ≡ (round_step (record { buffer = image; used = used }) (record { records = records; replies = replies })).1.buffer

-- A call of `stand_run` as a host makes it, with what it holds: it lends the image buffer and the used number, and a batch; and it reads the number and the used number, its
-- upper and its lower half, out of what is returned.
pub record HostCalls (h : HostImage) (t : LentBatch) (a : Answer) (h' : HostImage) : Type 0 where
  pub value : ℕ
  pub runs : StandRuns h.buffer h.used t.records t.replies h'.buffer a.buffer value
  pub number : a.number ≡ value / shift
  pub used : h'.used ≡ value % shift

-- calls in turn, "each call getting the image and the used number that the last one left": from what the host holds at first to what it holds at the end
abbrev pub HostSession : HostImage → List LentBatch → List Answer → HostImage → Type 0
HostSession h ts xs h' = Run HostCalls h ts xs h'
