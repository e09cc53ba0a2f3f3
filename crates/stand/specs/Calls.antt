-- Single calls as a host hands them over: their records and reply buffers one after the other in two buffers, with the sizes beside them.
-- Assumes nothing.
use Rattle.std.specs.Prelude.{◌≡◌, Bool, ◌&&◌, List, [], ◌∷◌, map, ℕ, ◌+◌, eqb, length, take, drop}
use Rattle.book.specs.Decide.{Call, Answer}
use Rattle.book.specs.Book.{fresh_book, book_step}
use Rattle.book.specs.Session.{answers}
use Rattle.book.specs.Batches.{buffers}
use Rattle.book.specs.Operations.{call, answered}
use Rattle.stand.specs.Operations.{Ran}

-- sizes added up
abbrev pub total : List ℕ → ℕ
total [] = 0
total (n ∷ ns) = n + total ns

-- call k has the next lengths[k] bytes as its record, and the next sizes[k] bytes as its reply buffer as lent
abbrev pub calls_of : List ℕ → List ℕ → List ℕ → List ℕ → List Call
calls_of [] ws s b = []
calls_of (n ∷ ns) [] s b = []
calls_of (n ∷ ns) (w ∷ ws) s b = record { bytes = take n s; buffer = take w b } ∷ calls_of ns ws (drop n s) (drop w b)

-- the answers of the plain book to those calls
abbrev pub book_answers : List ℕ → List ℕ → List ℕ → List ℕ → List Answer
book_answers s ns ws b = answers book_step fresh_book (calls_of ns ws s b)

-- the sizes add up to the buffers, and there is a place for each number
pub record Fit (s ns ws b cs : List ℕ) : Type 0 where
  pub records : total ns ≡ length s
  pub replies : total ws ≡ length b
  pub sizes : length ns ≡ length ws
  pub numbers : length ns ≡ length cs

-- the same as a test, of the buffers' lengths
unfoldable pub all_fit : List ℕ → ℕ → List ℕ → ℕ → ℕ → Bool
all_fit ns n ws m k = eqb (total ns) n && (eqb (total ws) m && (eqb (length ns) (length ws) && eqb (length ns) k))

-- demand 3, as a host sees it: there is a run of the calls, and every number and every byte of the reply buffers is the book's
pub record SessionAnswered (s ns ws lent left told : List ℕ) : Type 0 where
  pub ran : Ran (map call (calls_of ns ws s lent)) (map answered (book_answers s ns ws lent))
  pub numbers : told ≡ map (λ (x : Answer). x.number) (book_answers s ns ws lent)
  pub replies : left ≡ buffers (book_answers s ns ws lent)

-- a whole session: the book's answers where the sizes fit; else 11, and nothing is written
pub record SessionRun (s ns ws lent left cs told : List ℕ) (r : ℕ) : Type 0 where
  pub taken : Fit s ns ws lent cs → (r ≡ 0) × SessionAnswered s ns ws lent left told
  pub refused : (Fit s ns ws lent cs → ⊥) → (r ≡ 11) × (left ≡ lent) × (told ≡ cs)
