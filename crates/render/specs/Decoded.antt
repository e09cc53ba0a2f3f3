-- The token that each byte of rule code stands for: code read back, with a name for each id. It turns `code_of` of the crate code round.
-- Assumes nothing.
use Rattle.std.specs.Prelude.{Bool, cond, ◌||◌, List, [], ◌∷◌, map, ℕ, ◌-◌, eqb, leb, get_or}
use Rattle.lexer.specs.Class.{within}
use Rattle.lexer.specs.Words.{rule_w, any_w, not_w, or_w, pass_w, hold_w, send_w, anew_w}
use Rattle.lexer.specs.Tokens.{Token, word, mark}
use Rattle.lexer.specs.Render.{render}
use Rattle.names.specs.Unpacked.{unpacked}

-- the keyword of a letter: a n o p h s w are any not or pass hold send anew; no other letter stands in code
unfoldable pub keyword_of : ℕ → List ℕ
keyword_of b =
    cond (eqb b 97) any_w
    (cond (eqb b 110) not_w
    (cond (eqb b 111) or_w
    (cond (eqb b 112) pass_w
    (cond (eqb b 104) hold_w
    (cond (eqb b 115) send_w
    (cond (eqb b 119) anew_w []))))))

-- whether a byte of code stands for a word: a name, a letter or a digit
unfoldable pub is_word : ℕ → Bool
is_word b = leb 128 b || (within 97 122 b || within 48 57 b)

-- the bytes of its token: 128 and an id is a name, a letter a keyword, and a digit or a mark itself
unfoldable pub bytes_of : (ℕ → List ℕ) → ℕ → List ℕ
bytes_of name b = cond (leb 128 b) (name (b - 128)) (cond (within 97 122 b) (keyword_of b) (b ∷ []))

-- the token of a byte of code
unfoldable pub token_of : (ℕ → List ℕ) → ℕ → Token
token_of name b = cond (is_word b) (word (bytes_of name b)) (mark b)

-- the name of an id, by a table of packed names
abbrev pub name_in : List ℕ → ℕ → List ℕ
name_in ns i = unpacked (get_or ns i 0)

-- the tokens of a rule line: rule, its packed name, `:`, and those of its code
abbrev pub rule_tokens : List ℕ → ℕ → List ℕ → List Token
rule_tokens ns name code = word rule_w ∷ word (unpacked name) ∷ mark 58 ∷ map (token_of (name_in ns)) code

-- and its text: "one space between two neighbouring words and no other space"
abbrev pub rule_text : List ℕ → ℕ → List ℕ → List ℕ
rule_text ns name code = render (rule_tokens ns name code)
