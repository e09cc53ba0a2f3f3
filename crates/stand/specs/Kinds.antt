-- Operations as a host hands them over: a kind for each, and its buffers after those of the one before, with the sizes beside them.
-- Assumes nothing.
use Rattle.std.specs.Prelude.{◌≡◌, Bool, true, cond, ◌&&◌, List, [], ◌∷◌, ◌++◌, map, ℕ, eqb, leb, length, take, drop, get_or, Ok, Err}
use Rattle.std.specs.Prelude as prelude
use Rattle.common.specs.declared.refusals.Refusal.{Refusal}
use Rattle.common.specs.declared.refusals.Refusal.TheVariants.{BatchLength}
use Rattle.follow.specs.declared.state.State.{State}
use Rattle.book.specs.Session.{answers}
use Rattle.book.specs.Operations.{Operation, call, batch, keep, restore, Result, answered, kept, replaced}
use Rattle.book.specs.SessionBook.{fresh_session, book_operate}
use Rattle.stand.specs.Operations.{OperatedAs, Ran}
use Rattle.stand.specs.Calls.{Fit, all_fit}
use Rattle.stand.specs.Done.{Done}
use Rattle.stand.specs.declared.operations.Operation as host
use Rattle.stand.specs.declared.operations.Operation.TheVariants as kind

-- WHAT A HOST HANDS OVER

-- the kinds that name a batch, keeping and restoring; 0 names a single call
abbrev pub batch_kind : ℕ
batch_kind = 1

abbrev pub keep_kind : ℕ
keep_kind = 2

abbrev pub restore_kind : ℕ
restore_kind = 3

-- the kind of an operation
abbrev pub kind_of : host.Operation → ℕ
kind_of kind.Call = 0
kind_of kind.Batch = batch_kind
kind_of kind.Keep = keep_kind
kind_of kind.Restore = restore_kind

-- the operation that a kind names, of these four; else 11
abbrev pub named_by : ℕ → prelude.Result host.Operation Refusal
named_by k =
    cond (eqb k 0) (Ok kind.Call)
    (cond (eqb k batch_kind) (Ok kind.Batch)
    (cond (eqb k keep_kind) (Ok kind.Keep)
    (cond (eqb k restore_kind) (Ok kind.Restore)
    (Err BatchLength))))

-- one operation as handed over: its kind, its part of the records, and its part of the reply buffer as lent
pub record Part : Type 0 where
  pub kind : ℕ
  pub records : List ℕ
  pub lent : List ℕ

-- the operation of a kind: keeping writes into the reply buffer and looks at no record; restoring reads the records, an image, and writes nothing
abbrev pub operation_of : ℕ → List ℕ → List ℕ → Operation
operation_of k s b =
    cond (eqb k batch_kind) (batch s b)
    (cond (eqb k keep_kind) (keep b)
    (cond (eqb k restore_kind) (restore s)
    (call (record { bytes = s; buffer = b }))))

abbrev pub operation_in : Part → Operation
operation_in p = operation_of p.kind p.records p.lent

-- operation k is of the kind kinds[k], and has the next lengths[k] bytes as its records and the next sizes[k] bytes as its reply buffer as lent; past the last
-- kind stand single calls
abbrev pub parts_of : List ℕ → List ℕ → List ℕ → List ℕ → List ℕ → List Part
parts_of ks [] ws s b = []
parts_of ks (n ∷ ns) [] s b = []
parts_of ks (n ∷ ns) (w ∷ ws) s b = record { kind = get_or ks 0 0; records = take n s; lent = take w b } ∷ parts_of (drop 1 ks) ns ws (drop n s) (drop w b)

abbrev pub operations_of : List ℕ → List ℕ → List ℕ → List ℕ → List ℕ → List Operation
operations_of ks ns ws s b = map operation_in (parts_of ks ns ws s b)

-- every kind is one of the four
unfoldable pub all_known : List ℕ → Bool
all_known [] = true
all_known (k ∷ ks) = leb k restore_kind && all_known ks

-- WHAT IT GETS BACK

-- the number of a result
abbrev pub number_in : Result → ℕ
number_in (answered a) = a.number
number_in (kept n k b) = n
number_in (replaced n) = n

-- how many records it wrote: keeping alone writes any
abbrev pub count_in : Result → ℕ
count_in (answered a) = 0
count_in (kept n k b) = k
count_in (replaced n) = 0

-- its part of the reply buffer, of which restoring changes nothing
abbrev pub buffer_after : List ℕ → Result → List ℕ
buffer_after lent (answered a) = a.buffer
buffer_after lent (kept n k b) = b
buffer_after lent (replaced n) = lent

-- these parts, one after the other
abbrev pub buffers_of : List Part → List Result → List ℕ
buffers_of [] rs = []
buffers_of (p ∷ ps) [] = []
buffers_of (p ∷ ps) (r ∷ rs) = buffer_after p.lent r ++ buffers_of ps rs

-- what the operation o does is what the kind k names
pub record Named (k : ℕ) (o : host.Operation) : Type 0 where
  pub same : (s b : List ℕ) → operation_of k s b ≡ operation_of (kind_of o) s b

-- one operation done: some result of it, by what its function promises, is what is handed back
pub record DoneAs (k : ℕ) (m : State) (s lent left : List ℕ) (d : Done) : Type 0 where
  pub result : Result
  pub operated : OperatedAs m (operation_of k s lent) result d.monitor
  pub number : d.number ≡ number_in result
  pub count : d.count ≡ count_in result
  pub buffer : left ≡ buffer_after lent result

-- what the plain book hands back, operation by operation
abbrev pub book_results : List ℕ → List ℕ → List ℕ → List ℕ → List ℕ → List Result
book_results ks s ns ws b = answers book_operate fresh_session (operations_of ks ns ws s b)

-- a kind and a place for a count for each operation, each kind known, and sizes that fit
pub record OperationsFit (ks s ns ws b cs es : List ℕ) : Type 0 where
  pub known : all_known ks ≡ true
  pub kinds : length ks ≡ length ns
  pub counts : length es ≡ length ns
  pub sizes : Fit s ns ws b cs

-- the same as a test, of the buffers' lengths
unfoldable pub operations_fit : List ℕ → List ℕ → ℕ → List ℕ → ℕ → ℕ → ℕ → Bool
operations_fit ks ns n ws m k e = all_known ks && (eqb (length ks) (length ns) && (eqb e (length ns) && all_fit ns n ws m k))

-- demand 3, as a host sees it: there is a run of the operations, and every number, every count and every byte of the reply buffers is the book's
pub record OperationsAnswered (ks s ns ws lent left told es counted : List ℕ) : Type 0 where
  pub ran : Ran (operations_of ks ns ws s lent) (book_results ks s ns ws lent)
  pub numbers : told ≡ map number_in (book_results ks s ns ws lent)
  pub counts : length es ≡ length ns → counted ≡ map count_in (book_results ks s ns ws lent)
  pub replies : left ≡ buffers_of (parts_of ks ns ws s lent) (book_results ks s ns ws lent)

-- a whole session of operations: the book's results where kinds and sizes fit; else 11, and nothing is written
pub record OperationsRun (ks s ns ws lent left cs told es counted : List ℕ) (r : ℕ) : Type 0 where
  pub taken : OperationsFit ks s ns ws lent cs es → (r ≡ 0) × OperationsAnswered ks s ns ws lent left told es counted
  pub refused : (OperationsFit ks s ns ws lent cs es → ⊥) → (r ≡ 11) × (left ≡ lent) × (told ≡ cs) × (counted ≡ es)
