-- What keeping hands back, in C-12's words, with nothing to compute. `kept_exactly` of proofs/KeptExactly.antt says that `kept_in` gives exactly this.
-- Assumes nothing.
use Rattle.std.specs.Prelude.{◌≡◌, List, ◌++◌, ℕ, ◌*◌, ◌≤◌, ◌<◌, length, drop}
use Rattle.common.specs.Limits.{record_size}
use Rattle.book.specs.Operations.{Result, kept}

-- an image kept in a lent buffer, and the result
pub data KeptRow (image lent : List ℕ) : Result → Type 0 where
  -- "13, a lent buffer too short to keep into, .. untouched, 0 records handed back"
  too_short : length lent < length image → KeptRow image lent (kept 13 0 lent)
  -- "Keeping hands back how many records it wrote, and the rest of the lent buffer is unchanged."
  written : (k : ℕ) (rest : List ℕ) → length image ≡ k * record_size → length image ≤ length lent → rest ≡ drop (length image) lent → KeptRow image lent (kept 0 k (image ++ rest))
