-- The tokens of a text. Document 01, "A record".
-- Assumes nothing.
use Rattle.std.specs.Prelude.{◌≡◌, ℕ, ◌-◌, ◌<◌, Bool, true, false, cond, List, [], ◌∷◌, length, drop}
use Rattle.lexer.specs.Class.{wordy, spacey, marky}
use Rattle.lexer.specs.Run.{run, after}
use Rattle.lexer.specs.Words.{kind_of}
use Rattle.lexer.specs.Lexeme.{Lexeme, End, Word, Mark, Other}

-- a word with its bytes, a class 5 byte, or a byte that stands in no token of the language (class 6, and class 0 in texts of no record)
pub data Token : Type 0 where
  word : List ℕ → Token
  mark : ℕ → Token
  other : ℕ → Token

-- what a byte adds in front of the tokens after it: whether it is of a word, a space, a mark; whether the byte before it is of a word;
-- the byte; the rest of its word; the tokens after it
abbrev pub token_at : Bool → Bool → Bool → Bool → ℕ → List ℕ → List Token → List Token
token_at true sp mk true b w ts = ts
token_at true sp mk false b w ts = word (b ∷ w) ∷ ts
token_at false true mk i b w ts = ts
token_at false false true i b w ts = mark b ∷ ts
token_at false false false i b w ts = other b ∷ ts

-- the tokens of a text, where the byte before it is of a word or not
unfoldable pub tokens_from : Bool → List ℕ → List Token
tokens_from i [] = []
tokens_from i (b ∷ s) = token_at (wordy b) (spacey b) (marky b) i b (run wordy s) (tokens_from (wordy b) s)

-- "A word is a longest run of classes 2, 3 and 4. Each class 5 byte is a token of its own. Any number of spaces may stand between tokens and at either end."
abbrev pub tokens : List ℕ → List Token
tokens s = tokens_from false s

-- the last n bytes of a text: "the rest of the line goes on to the next reader as bytes from the middle of the same record"
unfoldable pub last : ℕ → List ℕ → List ℕ
last n s = drop (length s - n) s

-- the word that a text begins with, after the spaces in front
abbrev pub first_word : List ℕ → List ℕ
first_word s = run wordy (after spacey s)

-- the first token of a text that begins with no space, and how many bytes are left after it: a mark, by "Each class 5 byte is a token of its own"; a
-- word, by "a longest run of classes 2, 3 and 4"; or a byte that stands in no token
abbrev pub lexeme_at : List ℕ → Lexeme
lexeme_at [] = End
lexeme_at (b ∷ s) =
    cond (marky b) (Mark b (length s))
    (cond (wordy b) (Word (kind_of (run wordy (b ∷ s))) (length (after wordy (b ∷ s)))) (Other b (length s)))

-- what `next` answers: the same after the spaces in front, by "Any number of spaces may stand between tokens and at either end"
unfoldable pub lexeme_of : List ℕ → Lexeme
lexeme_of s = lexeme_at (after spacey s)

-- what the lexeme in front of a text tells of the text's tokens: proved of `lexeme_of` by the law `next_means`
unfoldable pub Next : List ℕ → Lexeme → Type 0
Next s End = tokens s ≡ []
Next s (Word k n) = (n < length s) × ((w : List ℕ) × (kind_of w ≡ k) × (tokens s ≡ word w ∷ tokens (last n s)) × (first_word s ≡ w))
Next s (Mark b n) = (n < length s) × (tokens s ≡ mark b ∷ tokens (last n s))
Next s (Other b n) = (n < length s) × (tokens s ≡ other b ∷ tokens (last n s))
