-- The least text of a line. Document 02, C-12: "Line records are written with one space between two neighbouring words and no other space but the padding after
-- the text."
-- Assumes nothing.
use Rattle.std.specs.Prelude.{List, ℕ}
use Rattle.lexer.specs.Render.{render}
use Rattle.grammar.specs.AsRead.{Line}
use Rattle.grammar.specs.Spell.{spell_line}

-- the line's tokens, "one space between two neighbouring words and no other space"
abbrev pub line_text : Line → List ℕ
line_text l = render (spell_line l)
