-- The whole-session theorem of the code, over operations: whatever is done with a fresh monitor, the numbers, the counts and the buffers are those of the plain book.
-- Assumes nothing.
use Rattle.std.proofs.Common.{◌≡◌, refl, sym, ap, ◌∙◌, subst, List, [], ◌∷◌, map}
use Rattle.follow.specs.declared.state.State.{State}
use Rattle.book.specs.Decide.{Call, Answer}
use Rattle.book.specs.Book.{fresh_book, book_step}
use Rattle.book.specs.MachineSteps.{PositionMachine, fresh_machine, machine_of}
use Rattle.book.specs.Session.{answers, left, run_end, run_step}
use Rattle.book.specs.Operations.{Operation, call, batch, keep, restore, Result, answered, kept, replaced, machine_operate}
use Rattle.book.specs.SessionBook.{SessionBook, fresh_session, book_operate}
use Rattle.book.proofs.Runs.{run-answers, run-leaves}
use Rattle.book.proofs.Whole.{whole_operations, operation-same, operations_state, operations_sound, operations_proper, calls_alone}
use Rattle.intake.specs.Represents.{Represents}
use Rattle.monitor.specs.Sessions.{Begun, Session}
use Rattle.monitor.proofs.SessionLaws.{call-represents}
use Rattle.monitor.proofs.OfCode.{KeepsBook}
use Rattle.batch.proofs.BatchRight.{batch-represents}
use Rattle.snapshot.proofs.SnapshotRight.{keep-represents, restore-represents}
use Rattle.stand.specs.Operations.{OperatedAs, by_call, by_batch, by_keep, by_restore, Operated, LeftBy}

-- one operation: the machine's result, and the monitor left represents the machine left
operated-represents : (m m' : State) (o : Operation) (r : Result) (t : PositionMachine) → Represents m t → OperatedAs m o r m' → (r ≡ (machine_operate t o).1) × Represents m' (machine_operate t o).0
operated-represents m m' (call c) (kept n k b) t rep x4 = elim x4 [ ]
operated-represents m m' (call c) (replaced n) t rep x5 = elim x5 [ ]
operated-represents m m' (batch s b) (kept n k _) t rep x5 = elim x5 [ ]
operated-represents m m' (batch s b) (replaced n) t rep x5 = elim x5 [ ]
operated-represents m m' (keep lent) (answered a) t rep x5 = elim x5 [ ]
operated-represents m m' (keep lent) (replaced n) t rep x6 = elim x6 [ ]
operated-represents m m' (restore image) (answered a) t rep x6 = elim x6 [ ]
operated-represents m m' (restore image) (kept n k b) t rep x7 = elim x7 [ ]
operated-represents m m' (call c) (answered a) t rep (by_call h) = let k = call-represents m m' c a t rep h in (ap answered k.0, k.1)
operated-represents m m' (batch s b) (answered a) t rep (by_batch h) = let k = batch-represents m m' s b a t rep h in (ap answered k.0, k.1)
operated-represents m m' (keep lent) (kept n k b) t rep (by_keep h) = keep-represents m m' lent n k b t rep h
operated-represents m m' (restore image) (replaced n) t rep (by_restore h) = restore-represents m m' image n t rep h

-- DEMAND 3: for every list of operations, each result is the plain book's.
pub operations_are_book : (m m' : State) (os : List Operation) (rs : List Result) → Begun m → Operated m os rs m' → rs ≡ answers book_operate fresh_session os
operations_are_book m m' os rs b run = run-answers OperatedAs machine_operate Represents operated-represents fresh_machine b.fresh run ∙ whole_operations os

-- and the monitor left keeps the book left
pub left-keeps : (os : List Operation) (m : State) → LeftBy os m → KeepsBook (left book_operate fresh_session os).book m
left-keeps os m l =
    record {
      sound = operations_sound os;
      represents = subst (Represents m) (operations_state os) (run-leaves OperatedAs machine_operate Represents operated-represents fresh_machine l.begun.fresh l.session);
    }

-- one operation more: what the theorem says of the last of a list
pub operation_is_book : (os : List Operation) (m m' : State) (o : Operation) (r : Result) → LeftBy os m → OperatedAs m o r m' → r ≡ (book_operate (left book_operate fresh_session os) o).1
operation_is_book os m m' o r l h =
    let s : SessionBook = left book_operate fresh_session os in
    (operated-represents m m' o r (machine_of s.book) (left-keeps os m l).represents h).0 ∙ operation-same s (operations_proper os) o

-- SINGLE CALLS ONLY

-- single calls in turn are operations in turn
calls-operated : {m m' : State} {cs : List Call} {xs : List Answer} → Session m cs xs m' → Operated m (map call cs) (map answered xs) m'
calls-operated run_end = run_end
calls-operated (run_step h run) = run_step (by_call h) (calls-operated run)

-- the answer in a result of a single call
abbrev answer_in : Result → Answer
answer_in (answered a) = a
answer_in (kept n k b) = record { number = n; buffer = b }
answer_in (replaced n) = record { number = n; buffer = [] }

answers_back : (xs : List Answer) → map answer_in (map answered xs) ≡ xs
answers_back [] = refl
answers_back (x ∷ xs) = ap (λ (l : List Answer). x ∷ l) (answers_back xs)

-- "for every list of calls .. each call's number and reply buffer, byte for byte, are those of the plain book": the case of single calls
pub session_is_book : (m m' : State) (cs : List Call) (xs : List Answer) → Begun m → Session m cs xs m' → xs ≡ answers book_step fresh_book cs
session_is_book m m' cs xs b run =
    let e = operations_are_book m m' (map call cs) (map answered xs) b (calls-operated run) ∙ calls_alone fresh_session cs in
    sym (answers_back xs) ∙ ap (map answer_in) e ∙ answers_back (answers book_step fresh_book cs)
