-- Records written out. Document 02, C-12.
-- Assumes nothing.
use Rattle.std.specs.Prelude.{List, [], ◌∷◌, ◌++◌, ℕ}
use Rattle.grammar.specs.AsRead.{Line}
use Rattle.grammar.specs.LineText.{line_text}
use Rattle.frame.specs.Record.{line_byte, newline}
use Rattle.columns.specs.Texts.{padded}

-- "records of 128 bytes again": byte 0, a text, "the padding after the text", the newline; a text of more than 126 bytes is cut
unfoldable pub text_record : ℕ → List ℕ → List ℕ
text_record b s = b ∷ (padded 126 s ++ (newline ∷ []))

-- "as `L` records": "written with one space between two neighbouring words and no other space but the padding after the text"
abbrev pub line_record : Line → List ℕ
line_record l = text_record line_byte (line_text l)
