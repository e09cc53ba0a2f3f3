-- The book of a session with images: document 02, C-12, "Places to return to".
-- Assumes nothing.
use Rattle.std.specs.Prelude.{Bool, true, false, cond, List, [], ◌∷◌, map, ℕ}
use Rattle.std.proofs.Math.Option.{Option, none, some}
use Rattle.lexer.specs.Words.{same}
use Rattle.book.specs.Book.{Book, given, Entry, fresh_book, book_step}
use Rattle.book.specs.MachineSteps.{PositionRule, PositionMachine, machine_of}
use Rattle.book.specs.Batches.{run_batch}
use Rattle.book.specs.Images.{image_of}
use Rattle.book.specs.Restoring.{restored}
use Rattle.book.specs.Operations.{Operation, call, batch, keep, restore, Result, answered, replaced, keep_fits, kept_in}

-- the book now; the books of which an image was written in this session, the last first; and whether an image from elsewhere has entered
pub record SessionBook : Type 0 where
  pub book : Book
  pub snapshots : List Book
  pub entered : Bool

-- a session begins with a fresh book
abbrev pub fresh_session : SessionBook
fresh_session = record { book = fresh_book; snapshots = []; entered = false }

-- the image of a book: its marks are the book's own, by `book_marked` of proofs/Marks.antt
abbrev pub book_image : Book → List ℕ
book_image b = image_of (machine_of b)

-- a rule whose marks an image gave
abbrev pub given_entry : PositionRule → Entry
given_entry x = record { rule = x.rule; start = 0; origin = given x.positions }

-- "for another accepted image, the marks it gives are followed": its roles, its rules with those marks, and no events yet
abbrev pub book_from : PositionMachine → Book
book_from t = record { roles = t.roles; rules = map given_entry t.rules; history = [] }

-- the last of the books of which this image was written
abbrev pub snapshot_of : List ℕ → List Book → Option Book
snapshot_of image [] = none
snapshot_of image (b ∷ bs) = cond (same image (book_image b)) (some b) (snapshot_of image bs)

-- "an image that keeping wrote in a session that no image from elsewhere has entered"
abbrev pub own_snapshot : SessionBook → List ℕ → Option Book
own_snapshot s image = cond s.entered none (snapshot_of image s.snapshots)

-- the same session with another book
abbrev pub with_book : SessionBook → Book → SessionBook
with_book s b = record { book = b; snapshots = s.snapshots; entered = s.entered }

-- keeping: the book is remembered where its image was written
abbrev pub book_kept : SessionBook → List ℕ → SessionBook
book_kept s lent = cond (keep_fits (book_image s.book) lent) (record { book = s.book; snapshots = s.book ∷ s.snapshots; entered = s.entered }) s

-- restoring. "For an image that keeping wrote in a session that no image from elsewhere has entered, the history is then the one at that moment, and later acts are
-- forgotten; for another accepted image, the marks it gives are followed"; 12, "monitor unchanged"
abbrev pub book_restored : SessionBook → Option Book → Option PositionMachine → SessionBook × Result
book_restored s (some b) r = (with_book s b, replaced 0)
book_restored s none none = (s, replaced 12)
book_restored s none (some t) = (record { book = book_from t; snapshots = s.snapshots; entered = true }, replaced 0)

-- one operation: the plain book runs a batch as its records one by one
abbrev pub book_operate : SessionBook → Operation → SessionBook × Result
book_operate s (call c) = (with_book s (book_step s.book c).0, answered (book_step s.book c).1)
book_operate s (batch r b) = (with_book s (run_batch book_step s.book r b).0, answered (run_batch book_step s.book r b).1)
book_operate s (keep lent) = (book_kept s lent, kept_in (book_image s.book) lent)
book_operate s (restore image) = book_restored s (own_snapshot s image) (restored image)
