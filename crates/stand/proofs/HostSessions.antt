-- Demand 3 as a host sees it that holds the monitor as an image: calls of `stand_run` in turn, known by what it promises and nothing else. Document 02, C-13.
-- Assumes nothing.
use Rattle.std.proofs.Common.{◌≡◌, refl, sym, ap, ◌∙◌, List, [], ◌∷◌, ℕ, ◌+◌, ◌*◌, ◌/◌, ◌%◌, ◌<◌, arith}
use Rattle.book.specs.Decide.{Answer}
use Rattle.book.specs.Book.{Book}
use Rattle.book.specs.Session.{answers, left, run_end, run_step}
use Rattle.book.specs.Rounds.{HostImage, LentBatch, round_step, feed}
use Rattle.book.proofs.Runs.{run-answers, run-leaves}
use Rattle.book.proofs.RoundRows.{used-within}
use Rattle.book.proofs.Rounds.{SaysBook, rounds_are_feeding}
use Rattle.stand.specs.Rounds.{shift, returned_for, HostCalls, HostSession}

-- THE NUMBER RETURNED

-- the halves of a number and a used number
upper_half : (n u : ℕ) → u < shift → (n * shift + u) / shift ≡ n
upper_half n u h = omega (arith, h)

lower_half : (n u : ℕ) → u < shift → (n * shift + u) % shift ≡ u
lower_half n u h = omega (arith, h)

-- ONE CALL

module _ (h : HostImage) (t : LentBatch) (small : h.used < shift) where
  -- what is handed back has 32 bits too
  still_small : (round_step h t).0.used < shift
  still_small = let k = used-within h t 4294967295 (omega arith) (omega (arith, small)) in omega arith

  -- what a host reads, and holds, is the round's
  pub call_is_round : (a : Answer) (h' : HostImage) → HostCalls h t a h' → ◌≡◌ {A = HostImage × Answer} (h', a) (round_step h t)
  call_is_round a h' c =
      let x = round_step h t in
      let number = c.number ∙ ap (λ (k : ℕ). k / shift) c.runs.returned ∙ upper_half x.1.number x.0.used still_small in
      let used = c.used ∙ ap (λ (k : ℕ). k % shift) c.runs.returned ∙ lower_half x.1.number x.0.used still_small in
      let buffer = c.runs.image_left in
      let replies = c.runs.replies-left in
      λ i. (record { buffer = buffer i; used = used i }, record { number = number i; buffer = replies i })

  -- and there is such a call
  pub call-made : HostCalls h t (round_step h t).1 (round_step h t).0
  call-made =
      let x = round_step h t in
      record {
        value = returned_for x;
        runs = record { returned = refl; image_left = refl; replies-left = refl };
        number = sym (upper_half x.1.number x.0.used still_small);
        used = sym (lower_half x.1.number x.0.used still_small);
      }

-- CALLS IN TURN

-- what a host holds, with a used number of 32 bits
record Holds (h g : HostImage) : Type 0 where
  same : h ≡ g
  small : g.used < shift

-- one call keeps this
each : (h h' : HostImage) (t : LentBatch) (a : Answer) (g : HostImage) → Holds h g → HostCalls h t a h' → (a ≡ (round_step g t).1) × Holds h' (round_step g t).0
each h h' t a g k c =
    let small : h.used < shift = omega (arith, k.small, ap (λ (x : HostImage). x.used) k.same) in
    let e = call_is_round h t small a h' c ∙ ap (λ (x : HostImage). round_step x t) k.same in
    (ap (λ (x : HostImage × Answer). x.1) e, record { same = ap (λ (x : HostImage × Answer). x.0) e; small = still_small g t k.small })

-- they are the rounds
pub calls_are_rounds : (h h' : HostImage) (ts : List LentBatch) (xs : List Answer) → h.used < shift → HostSession h ts xs h' → xs ≡ answers round_step h ts
calls_are_rounds h h' ts xs small run = run-answers HostCalls round_step Holds each h (record { same = refl; small = small }) run

-- and leave what the rounds leave
pub calls_leave : (h h' : HostImage) (ts : List LentBatch) (xs : List Answer) → h.used < shift → HostSession h ts xs h' → h' ≡ left round_step h ts
calls_leave h h' ts xs small run = (run-leaves HostCalls round_step Holds each h (record { same = refl; small = small }) run).same

-- every list of batches can be handed over
pub calls-made : (ts : List LentBatch) (h : HostImage) → h.used < shift → HostSession h ts (answers round_step h ts) (left round_step h ts)
calls-made [] h small = run_end
calls-made (t ∷ ts) h small = run_step (call-made h t small) (calls-made ts (round_step h t).0 (still_small h t small))

-- from an image that says a book, they are that book's answers, fed with the batches
pub calls_are_book : (h h' : HostImage) (b : Book) (ts : List LentBatch) (xs : List Answer) → SaysBook h b → HostSession h ts xs h' → xs ≡ answers feed b ts
calls_are_book h h' b ts xs s run = calls_are_rounds h h' ts xs (room_small h s) run ∙ rounds_are_feeding ts h b s
  where
    room_small : (g : HostImage) → SaysBook g b → g.used < shift
    room_small g k = omega (arith, k.room.within)
