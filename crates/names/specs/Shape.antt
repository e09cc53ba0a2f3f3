-- What a list of bytes has to be for its eight columns to show it whole.
-- Assumes nothing.
use Rattle.std.specs.Prelude.{◌≡◌, List, ℕ, ◌<◌, ◌≤◌, length, get_or}
use Rattle.lexer.specs.Class.{class_of}
use Rattle.names.specs.Name.{column_of}

-- every column is a byte
pub record Bytes (w : List ℕ) : Type 0 where
  pub byte : (i : ℕ) → column_of w i < 256

-- at most 8 bytes, and none of them is a space
pub record Packable (w : List ℕ) : Type 0 where
  pub bytes : Bytes w
  pub short : length w ≤ 8
  pub spaceless : (i : ℕ) → i < length w → column_of w i ≡ 32 → ⊥

-- "A name is a word of 1 to 8 bytes that begins with a letter"
pub record NameShape (w : List ℕ) : Type 0 where
  pub least : 1 ≤ length w
  pub most : length w ≤ 8
  pub letter : class_of (get_or w 0 0) ≡ 2
