-- Demand 3 as a host sees it that holds the monitor as an image: rounds in turn answer as the plain book does, fed with all records of the batches taken, in a row.
-- Document 02, C-13.
-- Assumes nothing.
use Rattle.std.proofs.Common.{◌≡◌, refl, sym, ap, ap₂, ◌∙◌, subst, Bool, true, false, cond, List, [], ◌∷◌, ◌++◌, ℕ, ◌*◌, arith, length}
use Rattle.std.proofs.Math.Option.{some}
use Rattle.common.specs.Limits.{record_size}
use Rattle.book.specs.Decide.{Call, Answer}
use Rattle.book.specs.Book.{Book, fresh_book, book_step}
use Rattle.book.specs.MachineSteps.{PositionMachine, machine_step, machine_of}
use Rattle.book.specs.Session.{answers, left}
use Rattle.book.specs.Batches.{batch_fits, batch_calls, buffers, batch_by}
use Rattle.book.specs.Images.{image_of}
use Rattle.book.specs.Restoring.{restored}
use Rattle.book.specs.Operations.{batch, calls_by}
use Rattle.book.specs.SessionBook.{book_image, book_from}
use Rattle.book.specs.Rounds.{room_records, HostImage, LentBatch, used_records, rewritten, round_step, feed, calls_in_row, reply_taken, replies_taken}
use Rattle.book.specs.RoundRows.{Room}
use Rattle.book.proofs.Runs.{answers_alike, left_alike, left-append, answers-append}
use Rattle.book.proofs.Batches.{batch-leaves, buffers-append}
use Rattle.book.proofs.Lasting.{Lasting}
use Rattle.book.proofs.Restored.{image_restored}
use Rattle.book.proofs.Accepted.{from_same}
use Rattle.book.proofs.WholeSteps.{Placed, Same, fresh-same, step_same, from_placed}
use Rattle.book.proofs.RoundLaws.{room_fits_lem, by_batch, by_taking, rewritten_room, rewritten_image, rewritten-says}

-- ONE ROUND

-- what a host holds says the machine of a book that operations can leave
pub record SaysBook (h : HostImage) (b : Book) : Type 0 where
  pub placed : Placed b
  pub room : Room h
  pub image : restored (used_records h) ≡ some (machine_of b)

-- what both hand back is the same, and what is held afterwards says the book afterwards
abbrev pub Agrees : HostImage × Answer → Book × Answer → Type 0
Agrees x y = (x.1 ≡ y.1) × SaysBook x.0 y.0

-- a book and its machine
here_same : (b : Book) → Placed b → Same (machine_of b) b
here_same b p = record { placed = p; state = refl }

-- after some calls
fed_same : (b : Book) → Placed b → (cs : List Call) → Same (left machine_step (machine_of b) cs) (left book_step b cs)
fed_same b p cs = left_alike machine_step book_step Same step_same cs (machine_of b) b (here_same b p)

-- a round answers as the book fed with the batch, and what is held afterwards says the book afterwards
pub round_same : (h : HostImage) (b : Book) → SaysBook h b → (t : LentBatch) → Agrees (round_step h t) (feed b t)
round_same h b s t = go (batch_fits t.records t.replies) refl
  where
    cs : List Call
    cs = batch_calls t.records t.replies

    after : Same (left machine_step (machine_of b) cs) (left book_step b cs)
    after = fed_same b s.placed cs

    kept : SaysBook (rewritten h (left machine_step (machine_of b) cs)) (left book_step b cs)
    kept =
        subst (λ (u : PositionMachine). SaysBook (rewritten h u) (left book_step b cs)) (sym after.state)
        (record {
          placed = after.placed;
          room = rewritten_room h (machine_of (left book_step b cs)) after.placed.lasting s.room;
          image = rewritten-says h (machine_of (left book_step b cs)) after.placed.lasting s.room;
        })

    go : (q : Bool) → batch_fits t.records t.replies ≡ q → Agrees (round_step h t) (batch_by q book_step b t.records t.replies)
    go true e =
        subst (λ (x : HostImage × Answer). Agrees x (batch_by true book_step b t.records t.replies)) (sym (by_taking h t (room_fits_lem h s.room) (machine_of b) s.image e))
        (ap (λ (xs : List Answer). record { number = 0; buffer = buffers xs }) (answers_alike machine_step book_step Same step_same cs (machine_of b) b (here_same b s.placed)), kept)
    go false e =
        subst (λ (x : HostImage × Answer). Agrees x (b, record { number = 11; buffer = t.replies })) (sym (by_batch h t (room_fits_lem h s.room) (machine_of b) s.image e)) (refl, s)

-- ROUNDS IN TURN

-- from an image that says a book: the numbers and the reply buffers are those of that book, fed with the batches
pub rounds_are_feeding : (ts : List LentBatch) (h : HostImage) (b : Book) → SaysBook h b → answers round_step h ts ≡ answers feed b ts
rounds_are_feeding = answers_alike round_step feed SaysBook round_same

-- and what the host holds at the end says the book at the end
pub rounds_say : (ts : List LentBatch) (h : HostImage) (b : Book) → SaysBook h b → SaysBook (left round_step h ts) (left feed b ts)
rounds_say = left_alike round_step feed SaysBook round_same

-- where its used records are the image of the book, they stay so: "the image is rewritten for the monitor afterwards"
round_writes : (h : HostImage) (b : Book) → SaysBook h b → used_records h ≡ book_image b → (t : LentBatch) → used_records (round_step h t).0 ≡ book_image (feed b t).0
round_writes h b s k t = go (batch_fits t.records t.replies) refl
  where
    after : Same (left machine_step (machine_of b) (batch_calls t.records t.replies)) (left book_step b (batch_calls t.records t.replies))
    after = fed_same b s.placed (batch_calls t.records t.replies)

    go : (q : Bool) → batch_fits t.records t.replies ≡ q → used_records (round_step h t).0 ≡ book_image (batch_by q book_step b t.records t.replies).0
    go true e =
        let u = left machine_step (machine_of b) (batch_calls t.records t.replies) in
        ap (λ (x : HostImage × Answer). used_records x.0) (by_taking h t (room_fits_lem h s.room) (machine_of b) s.image e)
        ∙ rewritten_image h u (subst Lasting (sym after.state) after.placed.lasting) s.room
        ∙ ap image_of after.state
    go false e = ap (λ (x : HostImage × Answer). used_records x.0) (by_batch h t (room_fits_lem h s.room) (machine_of b) s.image e) ∙ k

-- over every list
pub rounds_write : (ts : List LentBatch) (h : HostImage) (b : Book) → SaysBook h b → used_records h ≡ book_image b → used_records (left round_step h ts) ≡ book_image (left feed b ts)
rounds_write [] h b s k = k
rounds_write (t ∷ ts) h b s k = rounds_write ts (round_step h t).0 (feed b t).0 (round_same h b s t).1 (round_writes h b s k t)

-- WHAT A HOST MAY BEGIN WITH

-- used 0 and any bytes: a fresh book
pub fresh-says : (bytes : List ℕ) → length bytes ≡ room_records * record_size → SaysBook (record { buffer = bytes; used = 0 }) fresh_book
unfolding restored
fresh-says bytes e = record { placed = fresh-same.placed; room = record { size = e; within = omega arith }; image = refl }

-- the image of a book that operations left: that book, with its list
pub image_says : (h : HostImage) (b : Book) → Placed b → Room h → used_records h ≡ book_image b → SaysBook h b
image_says h b p r e = record { placed = p; room = r; image = ap restored e ∙ image_restored (machine_of b) p.lasting }

-- any image that is accepted: the book that follows the marks it gives
pub given-says : (h : HostImage) (m : PositionMachine) → Room h → restored (used_records h) ≡ some m → SaysBook h (book_from m)
given-says h m r e = record { placed = from_placed (used_records h) m e; room = r; image = e ∙ ap some (sym (from_same m)) }

-- ALL RECORDS IN A ROW

-- feeding batches leaves what the single calls of those taken leave, in a row
pub feeding_in_row : (ts : List LentBatch) (b : Book) → left feed b ts ≡ left book_step b (calls_in_row ts)
feeding_in_row [] b = refl
feeding_in_row (t ∷ ts) b =
    feeding_in_row ts (feed b t).0
    ∙ ap (λ (c : Book). left book_step c (calls_in_row ts)) (batch-leaves book_step b t.records t.replies)
    ∙ sym (left-append book_step b (calls_by (batch t.records t.replies)) (calls_in_row ts))

-- the reply bytes of the batches taken, one after the other, are those of these calls
pub replies_in_row : (ts : List LentBatch) (b : Book) → replies_taken (answers feed b ts) ≡ buffers (answers book_step b (calls_in_row ts))
replies_in_row [] b = refl
replies_in_row (t ∷ ts) b =
    ap₂ (λ (x y : List ℕ). x ++ y) (one (batch_fits t.records t.replies)) (replies_in_row ts (feed b t).0 ∙ ap (λ (c : Book). buffers (answers book_step c (calls_in_row ts))) (batch-leaves book_step b t.records t.replies))
    ∙ sym (buffers-append (answers book_step b cs) (answers book_step (left book_step b cs) (calls_in_row ts)))
    ∙ ap buffers (sym (answers-append book_step b cs (calls_in_row ts)))
  where
    cs : List Call
    cs = calls_by (batch t.records t.replies)

    one : (q : Bool) → reply_taken (batch_by q book_step b t.records t.replies).1 ≡ buffers (answers book_step b (cond q (batch_calls t.records t.replies) []))
    one true = refl
    one false = refl
