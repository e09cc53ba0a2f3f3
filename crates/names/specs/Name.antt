-- A name as a number: its eight columns, padded with spaces, base 256. Document 01, "A record" and "Reply, 50 bytes".
-- Assumes nothing.
use Rattle.std.specs.Prelude.{cond, List, [], ◌∷◌, ℕ, ◌+◌, ◌*◌, ◌-◌, ◌/◌, ◌%◌, ◌^◌, ltb, get_or}

-- "Columns 5 to 12: the name .. padded with spaces": column i of a name, 32 (a space) after its bytes
unfoldable pub column_of : List ℕ → ℕ → ℕ
column_of w i = get_or w i 32

-- the number v with digits written after it, base 256
abbrev pub number : ℕ → List ℕ → ℕ
number v [] = v
number v (b ∷ l) = number (v * 256 + b) l

-- the eight columns of a name as one number, the first column highest; "A name is a word of 1 to 8 bytes", so all of it stands there
unfoldable pub packed : List ℕ → ℕ
packed w = number (column_of w 0) (column_of w 1 ∷ column_of w 2 ∷ column_of w 3 ∷ column_of w 4 ∷ column_of w 5 ∷ column_of w 6 ∷ column_of w 7 ∷ [])

-- column i of a packed name, 0 the leftmost; a space where there is no such column
unfoldable pub column_at : ℕ → ℕ → ℕ
column_at n i = cond (ltb i 8) (n / 2 ^ ((7 - i) * 8) % 256) 32
