-- Whichever reading of C-12 is taken at each restore, the results of a session are the same.
-- Assumes nothing.
use Rattle.std.proofs.Common.{◌≡◌, sym, ap, ◌∙◌, subst, List}
use Rattle.std.proofs.Math.Option.{Option}
use Rattle.common.specs.All.{All}
use Rattle.book.specs.MachineSteps.{PositionMachine, fresh_machine, machine_of}
use Rattle.book.specs.Session.{answers, Run}
use Rattle.book.specs.Restoring.{restored}
use Rattle.book.specs.Operations.{Operation, call, batch, keep, Result, restored_or, machine_operate}
use Rattle.book.specs.SessionBook.{SessionBook, fresh_session, book_operate}
use Rattle.book.specs.Readings.{Among, among_first, among_later, Does, does_call, does_batch, does_keep, goes_back, follows_marks, turned_away}
use Rattle.book.proofs.Runs.{run-answers}
use Rattle.book.proofs.Restored.{image_restored}
use Rattle.book.proofs.Accepted.{from_same}
use Rattle.book.proofs.WholeSteps.{Placed, Proper, from_placed, Alike, fresh_alike, operation_agrees}
use Rattle.book.proofs.Whole.{whole_operations}

-- what holds of all holds of one
all_among : {A : Type 0} (R : A → Type 0) {a : A} {l : List A} → Among a l → All R l → R a
all_among R among_first h = h.0
all_among R (among_later m) h = all_among R m h.1

-- the result is the machine's, and the machine left is that of the session left
abbrev Right : PositionMachine → Operation → Result → SessionBook → Type 0
Right m o r n = (r ≡ (machine_operate m o).1) × Alike (machine_operate m o).0 n

module _ (s : SessionBook) (p : Proper s) where
  -- by the reading of specs/SessionBook.antt
  by_book : (o : Operation) → Right (machine_of s.book) o (book_operate s o).1 (book_operate s o).0
  by_book o = let h = operation_agrees s p o in (sym h.0, h.1)

  -- by any reading
  does_right : (o : Operation) (r : Result) (n : SessionBook) → Does s o r n → Right (machine_of s.book) o r n
  does_right o r n (does_call c) = by_book (call c)
  does_right o r n (does_batch x b) = by_book (batch x b)
  does_right o r n (does_keep lent) = by_book (keep lent)
  does_right o r n (goes_back image b e m q) =
      let k : Placed b = all_among Placed m p.before in
      let z = ap restored q ∙ image_restored (machine_of b) k.lasting in (
        sym (ap (λ (x : Option PositionMachine). (restored_or (machine_of s.book) x).1) z),
        record { proper = record { now = k; before = p.before }; state = ap (λ (x : Option PositionMachine). (restored_or (machine_of s.book) x).0) z },
      )
  does_right o r n (follows_marks image t e z) = (
    sym (ap (λ (x : Option PositionMachine). (restored_or (machine_of s.book) x).1) z),
    record {
      proper = record { now = from_placed image t z; before = p.before };
      state = ap (λ (x : Option PositionMachine). (restored_or (machine_of s.book) x).0) z ∙ sym (from_same t);
    },
  )
  does_right o r n (turned_away image z) = (
    sym (ap (λ (x : Option PositionMachine). (restored_or (machine_of s.book) x).1) z),
    record { proper = p; state = ap (λ (x : Option PositionMachine). (restored_or (machine_of s.book) x).0) z },
  )

-- one operation, by any reading, of a session and the machine that it stands for
each_right : (s n : SessionBook) (o : Operation) (r : Result) (m : PositionMachine) → Alike m s → Does s o r n → Right m o r n
each_right s n o r m h d = subst (λ (x : PositionMachine). Right x o r n) (sym h.state) (does_right s h.proper o r n d)

-- Every list of operations, with any reading at each restore, gives the results of the machine and of specs/SessionBook.antt.
pub any_reading : (os : List Operation) (xs : List Result) (u : SessionBook) → Run Does fresh_session os xs u → xs ≡ answers book_operate fresh_session os
any_reading os xs u run = run-answers Does machine_operate (λ s m. Alike m s) each_right fresh_machine fresh_alike run ∙ whole_operations os
