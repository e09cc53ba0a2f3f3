-- What reading a line tells, with ids for the names held. The tokens of a line stand at fixed places: `role NAME under NAME`, `rule NAME : ..`.
-- Assumes nothing.
use Rattle.std.specs.Prelude.{Bool, false, ◌&&◌, List, [], ◌∷◌, ℕ, leb, take, drop, unwrap_or}
use Rattle.common.specs.Limits.{max_patterns}
use Rattle.lexer.specs.Tokens.{Token, word, mark, other, tokens, last, lexeme_of}
use Rattle.lexer.specs.Lexeme.{Lexeme, End, Word, Mark, Other}
use Rattle.names.specs.Name.{packed}
use Rattle.names.specs.Place.{found}
use Rattle.code.specs.Encoded.{code_size, encoded_of}
use Rattle.code.specs.Count.{patterns_from}
use Rattle.code.specs.declared.encode.Encoded.{Encoded}
use Rattle.code.specs.declared.lines.RuleLine.{RuleLine}
use Rattle.code.specs.declared.lines.RoleLine.{RoleLine}

-- the bytes of a text that a lexeme leaves; all of them where there is no token
abbrev pub left_by : Lexeme → List ℕ → List ℕ
left_by End s = s
left_by (Word k n) s = last n s
left_by (Mark b n) s = last n s
left_by (Other b n) s = last n s

-- what is left of a text after its first token
unfoldable pub after_first : List ℕ → List ℕ
after_first s = left_by (lexeme_of s) s

-- the word in front of some tokens; no bytes where another token stands there, or none
abbrev pub leading_word : List Token → List ℕ
leading_word [] = []
leading_word (word w ∷ ts) = w
leading_word (mark b ∷ ts) = []
leading_word (other b ∷ ts) = []

-- the word that is token i of a text, packed; the first token is 0
abbrev pub name_in : ℕ → List ℕ → ℕ
name_in i s = packed (leading_word (drop i (tokens s)))

-- "at most 31 patterns in its past" (C-15: 63): as many begin in the code before its first `;`; a length that no code has is too many
unfoldable pub few_in : Encoded → Bool
few_in b = leb b.len code_size && leb (patterns_from false (take b.len b.code)) max_patterns

-- "rule, a name, `:`, a past, `;`, a pattern (the trigger), `;`, a response": the name is token 1, and what stands after token 2 is the body
unfoldable pub rule_line_of : List ℕ → List ℕ → RuleLine
rule_line_of ns s = record { name = name_in 1 s; fits = few_in (encoded_of ns (drop 3 (tokens s))); body = encoded_of ns (drop 3 (tokens s)) }

-- "role, a name, under, a name (its parent)": the name is token 1, and the parent token 3, told by its place among the names held, where it is held
unfoldable pub role_line_of : List ℕ → List ℕ → RoleLine
role_line_of ns s = record { name = name_in 1 s; parent = found (name_in 3 s) ns }

-- the parent's place as a number, d where it is not held
abbrev pub parent_or : ℕ → RoleLine → ℕ
parent_or d l = unwrap_or l.parent d
