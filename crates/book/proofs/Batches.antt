-- Batches: when one is taken, and what single calls make of it.
-- Assumes nothing.
use Rattle.std.proofs.Common.{◌≡◌, refl, sym, ap, ◌∙◌, subst, Bool, true, false, cond, ◌↔◌, List, [], ◌∷◌, ◌++◌, append_assoc, ℕ, zero, suc, ◌+◌, ◌*◌, ◌/◌, ◌%◌, arith, eqb, leb, length, take, drop, length-drop, length-take-le, drop-drop, take_at, drop_at, eqb-true, eq-eqb, leb-true, le-leb}
use Rattle.common.proofs.Bools.{and_left, and_right, and_both}
use Rattle.common.specs.All.{All}
use Rattle.common.specs.Limits.{record_size, reply_size}
use Rattle.book.specs.Decide.{Call, Answer}
use Rattle.book.specs.Book.{Book, book_decides, book_step}
use Rattle.book.specs.Session.{answers, left}
use Rattle.book.specs.Batches.{max_batch, BatchOf, sizes_fit, batch_fits, calls_in, batch_calls, buffers, batch_by, run_batch}
use Rattle.book.specs.Operations.{batch, calls_by}
use Rattle.book.proofs.Replies.{answer-length}

-- WHEN A BATCH IS TAKEN

-- Exactly where the buffers are those of n records and n replies, n from 0 to 512.
pub fits_exactly : (s b : List ℕ) → (batch_fits s b ≡ true) ↔ ((n : ℕ) × BatchOf n s b)
unfolding sizes_fit
fits_exactly s b = (yes, back)
  where
    yes : batch_fits s b ≡ true → (n : ℕ) × BatchOf n s b
    yes e =
        let p = eqb-true (length s % record_size) 0 (and_left (eqb (length s % record_size) 0) _ e) in
        let q = and_right (eqb (length s % record_size) 0) _ e in
        let f = leb-true (length s / record_size) max_batch (and_left (leb (length s / record_size) max_batch) _ q) in
        let r = eqb-true (length b) (length s / record_size * reply_size) (and_right (leb (length s / record_size) max_batch) _ q) in
        (length s / record_size, record { few = f; records = omega (arith, p); replies = r })

    back : (n : ℕ) × BatchOf n s b → batch_fits s b ≡ true
    back (n, h) =
        let p = h.records in
        let q = h.replies in
        let f = h.few in
        and_both (eq-eqb (length s % record_size) 0 (omega (arith, p)))
        (and_both (le-leb (length s / record_size) max_batch (omega (arith, p, f))) (eq-eqb (length b) (length s / record_size * reply_size) (omega (arith, p, q))))

-- WHAT SINGLE CALLS MAKE OF IT

-- the reply buffers of two lists of answers, one after the other
pub buffers-append : (xs ys : List Answer) → buffers (xs ++ ys) ≡ buffers xs ++ buffers ys
buffers-append [] ys = refl
buffers-append (x ∷ xs) ys = ap (λ (l : List ℕ). x.buffer ++ l) (buffers-append xs ys) ∙ sym (append_assoc x.buffer (buffers xs) (buffers ys))

-- "Replies and monitor must be those of n single calls in the same order.": a batch leaves what its calls leave, and one that is refused makes none
pub batch-leaves : {S : Type 0} (step : S → Call → S × Answer) (s : S) (r b : List ℕ) → (run_batch step s r b).0 ≡ left step s (calls_by (batch r b))
batch-leaves step s r b = go (batch_fits r b)
  where
    go : (q : Bool) → (batch_by q step s r b).0 ≡ left step s (cond q (batch_calls r b) [])
    go true = refl
    go false = refl

-- EACH REPLY IN ITS OWN 50 BYTES

-- every answer of a batch has 50 bytes
replies-sized : (n : ℕ) (s r : List ℕ) (b : Book) → length r ≡ n * reply_size → All (λ (a : Answer). length a.buffer ≡ reply_size) (answers book_step b (calls_in n s r))
replies-sized zero s r b h = tt
replies-sized (suc n) s r b h =
    let c : Call = record { bytes = take record_size s; buffer = take reply_size r } in
    let d = length-drop reply_size r in
    (answer-length (book_decides b c) (take reply_size r) (length-take-le reply_size r (omega (arith, h))), replies-sized n (drop record_size s) (drop reply_size r) (book_step b c).0 (omega (arith, h, d)))

-- the buffer of an answer after others
place_in : (u : List Answer) (x : Answer) (v : List Answer) → All (λ (a : Answer). length a.buffer ≡ reply_size) (u ++ (x ∷ v))
    → take reply_size (drop (length u * reply_size) (buffers (u ++ (x ∷ v)))) ≡ x.buffer
place_in [] x v h = take_at x.buffer (buffers v) reply_size h.0
place_in (y ∷ u) x v h =
    let l : List ℕ = y.buffer ++ buffers (u ++ (x ∷ v)) in
    let e : suc (length u) * reply_size ≡ reply_size + length u * reply_size = omega arith in
    ap (λ (i : ℕ). take reply_size (drop i l)) e
    ∙ ap (take reply_size) (sym (drop-drop (length u * reply_size) reply_size l))
    ∙ ap (λ (k : List ℕ). take reply_size (drop (length u * reply_size) k)) (drop_at y.buffer (buffers (u ++ (x ∷ v))) reply_size h.0)
    ∙ place_in u x v h.1

-- "Each reply is written into its own 50 bytes of the lent reply buffer.": the reply after k others stands in bytes 50 k to 50 k + 49
pub own_place : (n : ℕ) (s r : List ℕ) (b : Book) → length r ≡ n * reply_size → (u : List Answer) (x : Answer) (v : List Answer) → answers book_step b (calls_in n s r) ≡ u ++ (x ∷ v)
    → take reply_size (drop (length u * reply_size) (buffers (answers book_step b (calls_in n s r)))) ≡ x.buffer
own_place n s r b h u x v e =
    ap (λ (l : List Answer). take reply_size (drop (length u * reply_size) (buffers l))) e
    ∙ place_in u x v (subst (All (λ (a : Answer). length a.buffer ≡ reply_size)) e (replies-sized n s r b h))
