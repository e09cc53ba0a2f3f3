-- When a reader's answer on a text is the parser's on its tokens.
-- Assumes nothing.
use Rattle.std.specs.Prelude.{◌≡◌, ℕ, ◌+◌, ◌*◌, ◌<◌, ◌≤◌, List, length, Option, Some, None}
use Rattle.std.specs.Borrow.{Bor}
use Rattle.lexer.specs.Tokens.{Token, tokens, last}
use Rattle.grammar.specs.Parsed.{Parsed, none, some}
use Rattle.grammar.specs.Parser.{after_stars}

-- t is the end of s, byte for byte: "the rest of the line goes on to the next reader as bytes from the middle of the same record"
pub record EndOf (s t : List ℕ) : Type 0 where
  pub fits : length t ≤ length s
  pub bytes : t ≡ last (length t) s

-- what a reader answers: what is left of the text, or None
abbrev pub Answer : Type 0
Answer = Option (Bor (List ℕ))

-- both fail, or the end of the text is left and holds the tokens that the parser leaves
unfoldable pub ReadingIs : {A : Type 0} → Parsed A → List ℕ → Answer → Type 0
ReadingIs none s (Some t) = ⊥
ReadingIs none s None = Unit {0}
ReadingIs (some a ts) s (Some t) = EndOf s t.now × (tokens t.now ≡ ts)
ReadingIs (some a ts) s None = ⊥

-- what is left is shorter
unfoldable pub Shorter : List ℕ → Answer → Type 0
Shorter s (Some t) = length t.now < length s
Shorter s None = Unit {0}

-- a reader that always reads something: it answers as its parser does
pub record ReadsAs {A : Type 0} (parse : List Token → Parsed A) (s : List ℕ) (r : Answer) : Type 0 where
  pub shorter : Shorter s r
  pub answers : ReadingIs (parse (tokens s)) s r

-- a reader of a level: it answers as its parser does at every depth from the one on that the text's length asks
pub record ReadsAsLevel {A : Type 0} (level : ℕ) (parse : ℕ → List Token → Parsed A) (s : List ℕ) (r : Answer) : Type 0 where
  pub shorter : Shorter s r
  pub answers : (f : ℕ) → length s * 8 + level < f → ReadingIs (parse f (tokens s)) s r

-- t is what is left after the stars in front
pub record StarsPassed (s t : List ℕ) : Type 0 where
  pub end : EndOf s t
  pub left : tokens t ≡ after_stars (tokens s)
