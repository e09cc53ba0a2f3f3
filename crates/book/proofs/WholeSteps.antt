-- One operation, by the machine with positions and by the book of the session: the same result, and the machine left is the book left with its list taken to positions.
-- Assumes nothing.
use Rattle.std.proofs.Common.{◌≡◌, refl, sym, ap, ◌∙◌, subst, Bool, true, false, cond, List, [], ◌∷◌, ℕ}
use Rattle.std.proofs.Math.Option.{Option, none, some, none-ne-some, some-injective}
use Rattle.common.specs.All.{All}
use Rattle.lexer.specs.Words.{same}
use Rattle.lexer.proofs.KindLaws.{same_true}
use Rattle.book.specs.Decide.{Call, Answer}
use Rattle.book.specs.Book.{Book, fresh_book, book_step}
use Rattle.book.specs.MachineSteps.{PositionMachine, fresh_machine, machine_step, machine_of}
use Rattle.book.specs.Batches.{batch_fits, batch_calls, buffers, batch_by}
use Rattle.book.specs.Restoring.{restored}
use Rattle.book.specs.Operations.{Operation, call, batch, keep, restore, Result, answered, keep_fits, restored_or, machine_operate}
use Rattle.book.specs.SessionBook.{SessionBook, fresh_session, book_image, book_from, snapshot_of, own_snapshot, with_book, book_restored, book_operate}
use Rattle.book.proofs.Agree.{Sound, fresh_sound, step_sound, state-same, answer-same}
use Rattle.book.proofs.Runs.{answers_alike, left_alike}
use Rattle.book.proofs.Lasting.{Lasting, fresh_lasting, step_lasting}
use Rattle.book.proofs.Restored.{image_restored}
use Rattle.book.proofs.Accepted.{restored_lasting, from_same, from_sound}

-- what holds of a book after any operations
pub record Placed (b : Book) : Type 0 where
  pub sound : Sound b
  pub lasting : Lasting (machine_of b)

-- and of a session: of its book, and of the books kept in it
pub record Proper (s : SessionBook) : Type 0 where
  pub now : Placed s.book
  pub before : All Placed s.snapshots

-- BOOKS TO GO BACK TO

-- a book that is found was kept, and its image is the one restored
snapshot_found : (R : Book → Type 0) (image : List ℕ) (bs : List Book) (b : Book) → All R bs → snapshot_of image bs ≡ some b → R b × (image ≡ book_image b)
snapshot_found R image [] b h e = absurd (none-ne-some b e)
snapshot_found R image (x ∷ bs) b h e = go (same image (book_image x)) refl e (λ k. snapshot_found R image bs b h.1 k)
  where
    go : (q : Bool) → same image (book_image x) ≡ q → cond q (some x) (snapshot_of image bs) ≡ some b → (snapshot_of image bs ≡ some b → R b × (image ≡ book_image b)) → R b × (image ≡ book_image b)
    go true f k more = let z : x ≡ b = some-injective x b k in (subst R z h.0, same_true image (book_image x) f ∙ ap book_image z)
    go false f k more = more k

-- in a session that no image from elsewhere has entered
pub own_found : (R : Book → Type 0) (s : SessionBook) → All R s.snapshots → (image : List ℕ) (b : Book) → own_snapshot s image ≡ some b → R b × (image ≡ book_image b)
own_found R s h image b = go s.entered
  where
    go : (q : Bool) → cond q none (snapshot_of image s.snapshots) ≡ some b → R b × (image ≡ book_image b)
    go true e = absurd (none-ne-some b e)
    go false e = snapshot_found R image s.snapshots b h e

-- "for another accepted image, the marks it gives are followed": the book that does so
pub from_placed : (image : List ℕ) (t : PositionMachine) → restored image ≡ some t → Placed (book_from t)
from_placed image t e = let l = restored_lasting image t e in record { sound = from_sound t l; lasting = subst Lasting (sym (from_same t)) l }

-- SINGLE CALLS

-- the machine is the book with its list taken to positions, of a book that operations have left
pub record Same (m : PositionMachine) (b : Book) : Type 0 where
  pub placed : Placed b
  pub state : m ≡ machine_of b

-- at the start
pub fresh-same : Same fresh_machine fresh_book
fresh-same = record { placed = record { sound = fresh_sound; lasting = fresh_lasting }; state = refl }

-- a call leaves such a book
step_placed : (b : Book) → Placed b → (c : Call) → Placed (book_step b c).0
step_placed b p c = record { sound = step_sound b p.sound c; lasting = subst Lasting (state-same b p.sound c) (step_lasting (machine_of b) p.lasting c) }

-- one call: the same answer, and the same state
pub step_same : (m : PositionMachine) (b : Book) → Same m b → (c : Call) → ((machine_step m c).1 ≡ (book_step b c).1) × Same (machine_step m c).0 (book_step b c).0
step_same m b h c =
    let e = h.state in
    let s = h.placed.sound in (
      ap (λ (x : PositionMachine). (machine_step x c).1) e ∙ answer-same b s c,
      record { placed = step_placed b h.placed c; state = ap (λ (x : PositionMachine). (machine_step x c).0) e ∙ state-same b s c },
    )

-- OPERATIONS

-- the machine is the book of a session taken to positions
pub record Alike (m : PositionMachine) (s : SessionBook) : Type 0 where
  pub proper : Proper s
  pub state : m ≡ machine_of s.book

-- at the start of a session
pub fresh_alike : Alike fresh_machine fresh_session
fresh_alike = record { proper = record { now = fresh-same.placed; before = tt }; state = refl }

-- what both hand back is the same, and what they leave is alike
abbrev pub Agrees : PositionMachine × Result → SessionBook × Result → Type 0
Agrees x y = (x.1 ≡ y.1) × Alike x.0 y.0

-- a session whose book calls have moved on
moved_alike : (s : SessionBook) → Proper s → (m : PositionMachine) (b : Book) → Same m b → Alike m (with_book s b)
moved_alike s p m b h = record { proper = record { now = h.placed; before = p.before }; state = h.state }

module _ (s : SessionBook) (p : Proper s) where
  -- the book of the session now
  here : Same (machine_of s.book) s.book
  here = record { placed = p.now; state = refl }

  -- a single call
  call_same : (c : Call) → Agrees (machine_operate (machine_of s.book) (call c)) (book_operate s (call c))
  call_same c = let h = step_same (machine_of s.book) s.book here c in (ap answered h.0, moved_alike s p (machine_step (machine_of s.book) c).0 (book_step s.book c).0 h.1)

  -- "Replies and monitor must be those of n single calls in the same order."
  batch-same : (r b : List ℕ) → Agrees (machine_operate (machine_of s.book) (batch r b)) (book_operate s (batch r b))
  batch-same r b = go (batch_fits r b)
    where
      go : (q : Bool)
          → Agrees ((batch_by q machine_step (machine_of s.book) r b).0, answered (batch_by q machine_step (machine_of s.book) r b).1)
          (with_book s (batch_by q book_step s.book r b).0, answered (batch_by q book_step s.book r b).1)
      go true = (
        ap (λ (xs : List Answer). answered (record { number = 0; buffer = buffers xs })) (answers_alike machine_step book_step Same step_same (batch_calls r b) (machine_of s.book) s.book here),
        moved_alike s p _ _ (left_alike machine_step book_step Same step_same (batch_calls r b) (machine_of s.book) s.book here),
      )
      go false = (refl, record { proper = p; state = refl })

  -- keeping leaves the book
  keep_same : (lent : List ℕ) → Agrees (machine_operate (machine_of s.book) (keep lent)) (book_operate s (keep lent))
  keep_same lent = (refl, go (keep_fits (book_image s.book) lent))
    where
      go : (q : Bool) → Alike (machine_of s.book) (cond q (record { book = s.book; snapshots = s.book ∷ s.snapshots; entered = s.entered }) s)
      go true = record { proper = record { now = p.now; before = (p.now, p.before) }; state = refl }
      go false = record { proper = p; state = refl }

  -- RESTORING

  -- its image says it
  own_restored : (image : List ℕ) (b : Book) → own_snapshot s image ≡ some b → restored image ≡ some (machine_of b)
  own_restored image b f = let q = own_found Placed s p.before image b f in ap restored q.1 ∙ image_restored (machine_of b) q.0.lasting

  -- an own image goes back to its book, any other that is accepted is followed by its marks, and the rest change nothing
  restore_same : (image : List ℕ) → Agrees (machine_operate (machine_of s.book) (restore image)) (book_operate s (restore image))
  restore_same image = go (own_snapshot s image) (restored image) refl refl
    where
      go : (o : Option Book) (r : Option PositionMachine) → own_snapshot s image ≡ o → restored image ≡ r → Agrees (restored_or (machine_of s.book) r) (book_restored s o r)
      go (some b) none f g = absurd (none-ne-some (machine_of b) (sym g ∙ own_restored image b f))
      go (some b) (some t) f g =
          (refl, record { proper = record { now = (own_found Placed s p.before image b f).0; before = p.before }; state = some-injective t (machine_of b) (sym g ∙ own_restored image b f) })
      go none none f g = (refl, record { proper = p; state = refl })
      go none (some t) f g = (refl, record { proper = record { now = from_placed image t g; before = p.before }; state = sym (from_same t) })

  -- ANY OPERATION

  -- each kind
  pub operation_agrees : (o : Operation) → Agrees (machine_operate (machine_of s.book) o) (book_operate s o)
  operation_agrees (call c) = call_same c
  operation_agrees (batch r b) = batch-same r b
  operation_agrees (keep lent) = keep_same lent
  operation_agrees (restore image) = restore_same image

-- of a machine and a session that are alike
pub operate_alike : (m : PositionMachine) (s : SessionBook) → Alike m s → (o : Operation) → Agrees (machine_operate m o) (book_operate s o)
operate_alike m s h o = subst (λ (x : PositionMachine). Agrees (machine_operate x o) (book_operate s o)) (sym h.state) (operation_agrees s h.proper o)
