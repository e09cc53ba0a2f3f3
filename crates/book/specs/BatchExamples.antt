-- Sessions with batches as data: each operation with its result. `examples_right` of proofs/Examples.antt says that the book gives these results.
-- Assumes nothing.
use Rattle.std.specs.Prelude.{◌≡◌, Bool, true, false, List, [], ◌∷◌, ◌++◌, map, ℕ, take}
use Rattle.book.specs.Session.{answers}
use Rattle.book.specs.Batches.{sizes_fit}
use Rattle.book.specs.Operations.{Operation, call, batch, Result, answered}
use Rattle.book.specs.SessionBook.{fresh_session, book_operate}
use Rattle.book.specs.Examples.{Turn, turn, printed}

-- an operation and its result
pub record Done : Type 0 where
  pub operation : Operation
  pub result : Result

-- parts of turns, one after the other
abbrev pub joined : (Turn → List ℕ) → List Turn → List ℕ
joined part [] = []
joined part (r ∷ rs) = part r ++ joined part rs

-- the record bytes of turns, and the reply buffers as lent
abbrev pub records : List Turn → List ℕ
records rs = joined (λ r. r.call.bytes) rs

abbrev pub lent : List Turn → List ℕ
lent rs = joined (λ r. r.call.buffer) rs

-- a single call
abbrev pub one : Turn → Done
one r = record { operation = call r.call; result = answered r.answer }

-- a batch that is taken: 0, and the replies of the turns, one after the other
abbrev pub taken : List Turn → Done
taken rs = record { operation = batch (records rs) (lent rs); result = answered (record { number = 0; buffer = joined (λ r. r.answer.buffer) rs }) }

-- a batch that is refused: 11, and the reply buffer as lent
abbrev pub refused_batch : List ℕ → List ℕ → Done
refused_batch s b = record { operation = batch s b; result = answered (record { number = 11; buffer = b }) }

-- a fresh book gives these results
abbrev pub Results : List Done → Type 0
Results ds = answers book_operate fresh_session (map (λ (d : Done). d.operation) ds) ≡ map (λ (d : Done). d.result) ds

-- "A session printed", in one batch
abbrev pub printed_batch : List Done
printed_batch = taken printed ∷ []

-- records refused inside a batch, and batches refused, among batches and single calls
abbrev pub mixed : List Done
mixed =
    taken (turn "Lrole uv under top" 0 "D 00 uv" ∷ turn "Lrole uv under top" 5 "R 05 -" ∷ turn "Lrole expose under top" 0 "D 00 expose" ∷ turn "Lrule a: any*<uv>; <expose>; hold" 0 "D 00 a" ∷ [])
    ∷ refused_batch (records (turn "Euv" 0 "" ∷ [])) (take 49 (lent (turn "Euv" 0 "" ∷ [])))
    ∷ refused_batch (records (turn "Euv" 0 "" ∷ [])) (lent (turn "Euv" 0 "" ∷ turn "Euv" 0 "" ∷ []))
    ∷ refused_batch (take 127 (records (turn "Euv" 0 "" ∷ []))) (lent (turn "Euv" 0 "" ∷ []))
    ∷ one (turn "Eexpose" 0 "C 00 -        expose")
    ∷ taken (turn "Euv" 0 "C 00 -        uv" ∷ turn "Eexpose" 0 "H 01 a" ∷ turn "Euv uv uv uv uv" 4 "R 04 -" ∷ [])
    ∷ taken []
    ∷ refused_batch [] (7 ∷ [])
    ∷ one (turn "Eexpose" 0 "H 01 a")
    ∷ []

-- record bytes, reply bytes, and whether they are those of a batch
pub record Sized : Type 0 where
  pub records : ℕ
  pub replies : ℕ
  pub fits : Bool

abbrev sized : ℕ → ℕ → Bool → Sized
sized n m q = record { records = n; replies = m; fits = q }

-- "n from 0 to 512": none, one, two, 511, 512, and 513; off by one byte on either buffer
abbrev pub sizes : List Sized
sizes =
    sized 0 0 true
    ∷ sized 0 1 false
    ∷ sized 0 50 false
    ∷ sized 1 0 false
    ∷ sized 127 50 false
    ∷ sized 128 50 true
    ∷ sized 128 49 false
    ∷ sized 128 51 false
    ∷ sized 128 0 false
    ∷ sized 129 50 false
    ∷ sized 256 100 true
    ∷ sized 256 50 false
    ∷ sized 65408 25550 true
    ∷ sized 65535 25600 false
    ∷ sized 65535 25550 false
    ∷ sized 65536 25600 true
    ∷ sized 65536 25599 false
    ∷ sized 65537 25600 false
    ∷ sized 65664 25650 false
    ∷ []

-- and that is what the test says
abbrev pub SizesRight : Type 0
SizesRight = map (λ (x : Sized). sizes_fit x.records x.replies) sizes ≡ map (λ (x : Sized). x.fits) sizes
