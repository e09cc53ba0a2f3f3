-- Tokens written out again as text. Document 02, C-12: "Line records are written with one space between two neighbouring words and no other space but the padding
-- after the text."
-- Assumes nothing.
use Rattle.std.specs.Prelude.{ℕ, Bool, true, false, List, [], ◌∷◌, ◌++◌}
use Rattle.lexer.specs.Tokens.{Token, word, mark, other}

-- "one space between two neighbouring words": what stands in front of a word, where the token before it is a word or not
abbrev pub gap : Bool → List ℕ → List ℕ
gap true s = 32 ∷ s
gap false s = s

-- the text of some tokens, where the token before them is a word or not
unfoldable pub render_from : Bool → List Token → List ℕ
render_from i [] = []
render_from i (word w ∷ ts) = gap i (w ++ render_from true ts)
render_from i (mark b ∷ ts) = b ∷ render_from false ts
render_from i (other b ∷ ts) = b ∷ render_from false ts

-- each token's bytes, "with one space between two neighbouring words and no other space"
abbrev pub render : List Token → List ℕ
render ts = render_from false ts
