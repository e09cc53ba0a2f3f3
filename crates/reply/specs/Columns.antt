-- The columns of a reply, one by one. Document 01, "Reply, 50 bytes".
-- Assumes nothing.
use Rattle.std.specs.Prelude.{◌≡◌, List, ℕ, ◌+◌, ◌/◌, ◌%◌, ◌<◌, length, get_or}
use Rattle.common.specs.Limits.{reply_size}

-- the columns of the reply r with a letter, a number, a name and a text
pub record Columns (letter n : ℕ) (name text r : List ℕ) : Type 0 where
  -- "Reply, 50 bytes"
  pub size : length r ≡ reply_size
  -- "Column 0", a letter
  pub first : get_or r 0 0 ≡ letter
  -- "Columns 2 and 3: .. two digits"
  pub tens : get_or r 2 0 ≡ n / 10 + 48
  pub units : get_or r 3 0 ≡ n % 10 + 48
  -- "Columns 5 to 12: the name .. padded with spaces"
  pub named : (i : ℕ) → i < 8 → get_or r (5 + i) 0 ≡ get_or name i 32
  -- "Columns 14 to 48: .. the committed role names .. padded; else spaces"
  pub texted : (i : ℕ) → i < 35 → get_or r (14 + i) 0 ≡ get_or text i 32
  -- "Columns 1, 4 and 13 are spaces, column 49 the newline"
  pub space : get_or r 1 0 ≡ 32
  pub space2 : get_or r 4 0 ≡ 32
  pub space3 : get_or r 13 0 ≡ 32
  pub newline : get_or r 49 0 ≡ 10
