-- Lines written out, computed: a rule's code as its text, and whole records.
-- Assumes nothing.
use Rattle.std.proofs.Common.{◌≡◌, refl, List, [], ◌∷◌, ℕ}
use Rattle.lexer.specs.Class.{class_of, wordy, spacey, marky}
use Rattle.lexer.specs.Run.{run}
use Rattle.lexer.specs.Tokens.{tokens_from, tokens}
use Rattle.lexer.specs.Render.{render_from, render}
use Rattle.names.specs.Name.{column_of, packed, column_at}
use Rattle.names.specs.Unpacked.{not_space, unpacked}
use Rattle.grammar.specs.AsRead.{role}
use Rattle.grammar.specs.Spell.{spell_line}
use Rattle.grammar.specs.Text as text
use Rattle.frame.specs.Record.{line_byte}
use Rattle.frame.specs.Records.{record_of}
use Rattle.columns.specs.Texts.{padded}
use Rattle.render.specs.Decoded.{keyword_of, is_word, bytes_of, token_of, rule_text}
use Rattle.render.specs.Records.{line_record, text_record}

-- the packed names of top, uv and lamp: ids 0, 1 and 2
abbrev table : List ℕ
table = packed (text.bytes_of "top") ∷ packed (text.bytes_of "uv") ∷ packed (text.bytes_of "lamp") ∷ []

-- a space stands between two words and nowhere else: not before or after a mark
pub marks_and_words : rule_text table (packed (text.bytes_of "a")) (97 ∷ 97 ∷ 42 ∷ 60 ∷ 129 ∷ 130 ∷ 62 ∷ 59 ∷ 97 ∷ 59 ∷ 119 ∷ 60 ∷ 130 ∷ 35 ∷ 50 ∷ 129 ∷ 62 ∷ [])
    ≡ text.bytes_of "rule a:any any*<uv lamp>;any;anew<lamp#2 uv>"
unfolding render_from run not_space unpacked column_of packed column_at keyword_of is_word bytes_of token_of
marks_and_words = refl

-- keywords next to each other and next to brackets, and items with `+`
pub brackets_and_keywords : rule_text table (packed (text.bytes_of "uv-2"))
    (40 ∷ 91 ∷ 110 ∷ 110 ∷ 97 ∷ 111 ∷ 110 ∷ 60 ∷ 43 ∷ 130 ∷ 42 ∷ 62 ∷ 93 ∷ 43 ∷ 40 ∷ 41 ∷ 41 ∷ 42 ∷ 59 ∷ 60 ∷ 129 ∷ 43 ∷ 129 ∷ 62 ∷ 59 ∷ 104 ∷ [])
    ≡ text.bytes_of "rule uv-2:([not not any or not<+lamp*>]+())*;<uv+uv>;hold"
unfolding render_from run not_space unpacked column_of packed column_at keyword_of is_word bytes_of token_of
brackets_and_keywords = refl

-- the record of a role line
pub role_example : line_record (role (text.bytes_of "lamp") (text.bytes_of "top")) ≡ record_of (text.bytes_of "Lrole lamp under top")
unfolding render_from spell_line padded text_record
role_example = refl

-- the record of a rule line, from its code
pub rule_example : text_record line_byte (rule_text table (packed (text.bytes_of "b")) (60 ∷ 62 ∷ 59 ∷ 60 ∷ 129 ∷ 62 ∷ 59 ∷ 115 ∷ 60 ∷ 35 ∷ 49 ∷ 35 ∷ 49 ∷ 62 ∷ []))
    ≡ record_of (text.bytes_of "Lrule b:<>;<uv>;send<#1#1>")
unfolding render_from run not_space unpacked column_of packed column_at keyword_of is_word bytes_of token_of padded text_record
rule_example = refl

-- a text written out again: spaces go, but for one between two words
pub spaces_go : render (tokens (text.bytes_of "  rule  c : any any+< lamp  uv * > ; [ any ] ; pass  ")) ≡ text.bytes_of "rule c:any any+<lamp uv*>;[any];pass"
unfolding class_of wordy spacey marky run tokens_from render_from
spaces_go = refl
