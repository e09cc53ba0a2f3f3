-- A token in front of a text, told by numbers: what `next` answers, by the view `by_numbers` of specs/First.antt.
-- Assumes nothing.
use Rattle.std.specs.Prelude.{ℕ}

-- no token; a word by its kind's number, a mark (a class 5 byte), or a byte that stands in no token, each with how many bytes are left after it
pub data Lexeme : Type 0 where
  End : Lexeme
  Word : ℕ → ℕ → Lexeme
  Mark : ℕ → ℕ → Lexeme
  Other : ℕ → ℕ → Lexeme
