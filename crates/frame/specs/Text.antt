-- The text of a record. Document 01, "A record".
-- Assumes nothing.
use Rattle.std.specs.Prelude.{List, ℕ, take, drop}

-- "Bytes 1 to 126 are the text."
unfoldable pub text_of : List ℕ → List ℕ
text_of s = take 126 (drop 1 s)
