-- Demand 3, over the list of operations as a whole. Document 01, "The full list": "Demand 3 is said of the list of calls as a whole, once"; document 02, C-11 and C-12.
-- Assumes nothing.
use Rattle.std.proofs.Common.{◌≡◌, refl, sym, ap, ◌∙◌, List, [], ◌∷◌, map}
use Rattle.std.proofs.Math.Option.{Option, some-injective}
use Rattle.book.specs.Decide.{Call}
use Rattle.book.specs.Book.{Book, fresh_book, book_step}
use Rattle.book.specs.MachineSteps.{PositionMachine, fresh_machine, machine_step, machine_of}
use Rattle.book.specs.Session.{answers, left}
use Rattle.book.specs.Restoring.{restored}
use Rattle.book.specs.Operations.{Operation, call, restore, Result, answered, replaced, restored_or, machine_operate}
use Rattle.book.specs.SessionBook.{SessionBook, fresh_session, book_image, with_book, book_operate}
use Rattle.book.proofs.Agree.{Sound}
use Rattle.book.proofs.Runs.{answers_alike, left_alike}
use Rattle.book.proofs.Restored.{image_restored}
pub use Rattle.book.proofs.WholeSteps.{Placed, Proper}
use Rattle.book.proofs.WholeSteps.{Same, fresh-same, step_same, Alike, fresh_alike, operation_agrees, operate_alike}

-- SESSIONS

-- from any session that operations have left
pub operations_same : (os : List Operation) (s : SessionBook) → Proper s → answers machine_operate (machine_of s.book) os ≡ answers book_operate s os
operations_same os s p = answers_alike machine_operate book_operate Alike operate_alike os (machine_of s.book) s (record { proper = p; state = refl })

-- what any operations leave
operations_alike : (os : List Operation) → Alike (left machine_operate fresh_machine os) (left book_operate fresh_session os)
operations_alike os = left_alike machine_operate book_operate Alike operate_alike os fresh_machine fresh_session fresh_alike

-- The whole-session theorem: with a number of positions for each rule the results are those of the book, whatever the operations.
pub whole_operations : (os : List Operation) → answers machine_operate fresh_machine os ≡ answers book_operate fresh_session os
whole_operations os = answers_alike machine_operate book_operate Alike operate_alike os fresh_machine fresh_session fresh_alike

-- And the machine that is left is the book's with its list taken to positions.
pub operations_state : (os : List Operation) → left machine_operate fresh_machine os ≡ machine_of (left book_operate fresh_session os).book
operations_state os = (operations_alike os).state

-- What holds of a session after any operations.
pub operations_proper : (os : List Operation) → Proper (left book_operate fresh_session os)
operations_proper os = (operations_alike os).proper

-- its book is in order
pub operations_sound : (os : List Operation) → Sound (left book_operate fresh_session os).book
operations_sound os = (operations_proper os).now.sound

-- one operation, of a session that operations have left
pub operation-same : (s : SessionBook) → Proper s → (o : Operation) → (machine_operate (machine_of s.book) o).1 ≡ (book_operate s o).1
operation-same s p o = (operation_agrees s p o).0

-- AN IMAGE DECIDES WHAT FOLLOWS

-- equal images are of equal machines
image_machine : (a b : Book) → Placed a → Placed b → book_image a ≡ book_image b → machine_of a ≡ machine_of b
image_machine a b p q e =
    some-injective (machine_of a) (machine_of b) (sym (image_restored (machine_of a) p.lasting) ∙ ap restored e ∙ image_restored (machine_of b) q.lasting)

-- Two sessions whose books have equal images give equal results to every later list of operations, whatever was kept in them and entered them.
pub image_determines : (s u : SessionBook) → Proper s → Proper u → book_image s.book ≡ book_image u.book → (os : List Operation) → answers book_operate s os ≡ answers book_operate u os
image_determines s u p q e os =
    sym (operations_same os s p) ∙ ap (λ (m : PositionMachine). answers machine_operate m os) (image_machine s.book u.book p.now q.now e) ∙ operations_same os u q

-- So in any session restoring an image goes on as any book whose image it is, of this session or of another, with its history, from the moment it was kept: which moment is
-- meant, and whether the session counts as entered, is seen in no result.
pub restore_goes_on : (s u : SessionBook) → Proper s → Proper u → (os : List Operation) → answers book_operate s (restore (book_image u.book) ∷ os) ≡ replaced 0 ∷ answers book_operate u os
restore_goes_on s u p q os =
    let m : PositionMachine = machine_of s.book in
    sym (operations_same (restore (book_image u.book) ∷ os) s p)
    ∙ ap (λ (r : Option PositionMachine). (restored_or m r).1 ∷ answers machine_operate (restored_or m r).0 os) (image_restored (machine_of u.book) q.now.lasting)
    ∙ ap (λ (xs : List Result). replaced 0 ∷ xs) (operations_same os u q)

-- SINGLE CALLS ONLY

-- what any calls leave
calls_same : (cs : List Call) → Same (left machine_step fresh_machine cs) (left book_step fresh_book cs)
calls_same cs = left_alike machine_step book_step Same step_same cs fresh_machine fresh_book fresh-same

-- the machine that calls leave is the book's with its list taken to positions
pub whole-state : (cs : List Call) → left machine_step fresh_machine cs ≡ machine_of (left book_step fresh_book cs)
whole-state cs = (calls_same cs).state

-- and the book is in order
pub book_sound : (cs : List Call) → Sound (left book_step fresh_book cs)
book_sound cs = (calls_same cs).placed.sound

-- a list of single calls, as operations
pub calls_alone : (s : SessionBook) (cs : List Call) → answers book_operate s (map call cs) ≡ map answered (answers book_step s.book cs)
calls_alone s [] = refl
calls_alone s (c ∷ cs) = ap (λ (xs : List Result). answered (book_step s.book c).1 ∷ xs) (calls_alone (with_book s (book_step s.book c).0) cs)
