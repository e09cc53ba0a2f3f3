-- C-12 leaves open which moment is meant where two images are equal, and which images are from elsewhere. Here every reading is allowed at every restore;
-- `any_reading` of proofs/Readings.antt says that the results are those of specs/SessionBook.antt all the same.
-- Assumes nothing.
use Rattle.std.specs.Prelude.{◌≡◌, Bool, List, ◌∷◌, ℕ}
use Rattle.std.proofs.Math.Option.{none, some}
use Rattle.book.specs.Decide.{Call}
use Rattle.book.specs.Book.{Book}
use Rattle.book.specs.MachineSteps.{PositionMachine}
use Rattle.book.specs.Restoring.{restored}
use Rattle.book.specs.Operations.{Operation, call, batch, keep, restore, Result, replaced}
use Rattle.book.specs.SessionBook.{SessionBook, book_image, book_from, book_operate}

-- one of a list
pub data Among {A : Type 0} (a : A) : List A → Type 0 where
  among_first : {l : List A} → Among a (a ∷ l)
  among_later : {b : A} {l : List A} → Among a l → Among a (b ∷ l)

-- One operation, by any reading. Restoring goes back to any book kept in this session whose image it is, whatever has entered since; or follows the marks that the image
-- gives, also of an image kept here; and the session then counts as entered or not.
pub data Does (s : SessionBook) : Operation → Result → SessionBook → Type 0 where
  does_call : (c : Call) → Does s (call c) (book_operate s (call c)).1 (book_operate s (call c)).0
  does_batch : (r b : List ℕ) → Does s (batch r b) (book_operate s (batch r b)).1 (book_operate s (batch r b)).0
  does_keep : (lent : List ℕ) → Does s (keep lent) (book_operate s (keep lent)).1 (book_operate s (keep lent)).0
  goes_back : (image : List ℕ) (b : Book) (e : Bool) → Among b s.snapshots → image ≡ book_image b → Does s (restore image) (replaced 0) (record { book = b; snapshots = s.snapshots; entered = e })
  follows_marks : (image : List ℕ) (t : PositionMachine) (e : Bool) → restored image ≡ some t → Does s (restore image) (replaced 0) (record { book = book_from t; snapshots = s.snapshots; entered = e })
  turned_away : (image : List ℕ) → restored image ≡ none → Does s (restore image) (replaced 12) s
