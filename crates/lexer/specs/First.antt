-- What `next` answers of a text.
-- Assumes nothing.
use Rattle.std.specs.Prelude.{◌≡◌, ℕ, List, length, Option, Some, None}
use Rattle.std.specs.Borrow.{Bor}
use Rattle.lexer.specs.Words.{kind_number}
use Rattle.lexer.specs.Lexeme as numbers
use Rattle.lexer.specs.Tokens.{last, first_word, lexeme_of}
use Rattle.lexer.specs.declared.tokens.Lexeme.{Lexeme}
use Rattle.lexer.specs.declared.tokens.Lexeme.TheVariants.{Word, Mark, Other}

-- an answer told by numbers: the kind of a word or the byte, and how many bytes are left
abbrev pub by_numbers : Option (Lexeme × (Bor (List ℕ))) → numbers.Lexeme
by_numbers None = numbers.End
by_numbers (Some (Word k w, t)) = numbers.Word (kind_number k) (length t.now)
by_numbers (Some (Mark b, t)) = numbers.Mark b (length t.now)
by_numbers (Some (Other b, t)) = numbers.Other b (length t.now)

-- the bytes that an answer hands back: a word's are the first word of the text, and what is left is the text's end
abbrev pub Parts : List ℕ → Option (Lexeme × (Bor (List ℕ))) → Type 0
Parts s None = Unit {0}
Parts s (Some (Word k w, t)) = (w.now ≡ first_word s) × (t.now ≡ last (length t.now) s)
Parts s (Some (Mark b, t)) = t.now ≡ last (length t.now) s
Parts s (Some (Other b, t)) = t.now ≡ last (length t.now) s

-- the first token of a text, its bytes and what is left after it
pub record FirstToken (s : List ℕ) (r : Option (Lexeme × (Bor (List ℕ)))) : Type 0 where
  pub told : by_numbers r ≡ lexeme_of s
  pub parts : Parts s r
