-- The 50 bytes of a reply. Document 01, "Reply, 50 bytes".
-- Assumes nothing.
use Rattle.std.specs.Prelude.{List, [], ◌∷◌, ◌++◌, ℕ, ◌+◌, ◌/◌, ◌%◌}
-- "padded with spaces", and names "with one space between"
use Rattle.common.specs.Limits.{name_size}
unfoldable pub use Rattle.columns.specs.Texts.{padded, spaced}
-- the name where there is none
pub use Rattle.columns.specs.Texts.{dash}

-- column 0, a letter; columns 2 and 3, "two digits"; columns 5 to 12, a name; columns 14 to 48, a text; "Columns 1, 4 and 13 are spaces, column 49 the newline."
unfoldable pub reply_bytes : ℕ → ℕ → List ℕ → List ℕ → List ℕ
reply_bytes letter n name text = letter ∷ 32 ∷ (n / 10 + 48) ∷ (n % 10 + 48) ∷ 32 ∷ (padded name_size name ++ (32 ∷ (padded 35 text ++ (10 ∷ []))))
