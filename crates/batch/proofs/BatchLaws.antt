-- A batch worked record by record.
-- Assumes nothing.
use Rattle.std.proofs.Common.{◌≡◌, refl, sym, ap, ap₂, ◌∙◌, subst, true, false, List, [], ◌∷◌, ◌++◌, append_assoc, append-nil, ℕ, zero, suc, ◌+◌, ◌*◌, ◌/◌, ◌≤◌, arith, length, take, drop, length-append, length-drop, length-take-le, drop-drop, take_at, drop_at}
use borrow.Rule.Slice.PartMut.{put_mid}
use Rattle.common.proofs.Bools.{true_not_false}
use Rattle.follow.specs.declared.state.State.{State}
use Rattle.book.specs.Decide.{Call, Answer}
use Rattle.book.specs.Session.{run_end}
use Rattle.book.specs.Batches.{batch_fits, calls_in, batch_calls, buffers}
use Rattle.book.proofs.Runs.{run-last}
use Rattle.book.proofs.Batches.{buffers-append}
use Rattle.monitor.specs.Handled.{Handles, Handled}
use Rattle.monitor.specs.Sessions.{Session}
use Rattle.batch.specs.Handled.{BatchHandles}
use Rattle.batch.proofs.SizeLaws.{whole-records, replies_for_each}
use Rattle.batch.proofs.PartLaws.{Filled, filled_none, part_lent, same_room, filled_more}

-- some calls of the batch are made: a run of single calls from f to m, whose buffers stand in front; the records of `rest` are left, and the next is record i
pub record Progress (f : State) (s b : List ℕ) (m : State) (left : List ℕ) (size : ℕ) (rest : List ℕ) (i : ℕ) : Type 0 where
  pub whole : size ≡ 128
  pub made : List Call
  pub done : List Answer
  pub more : ℕ
  pub session : Session f made done m
  pub calls : batch_calls s b ≡ made ++ calls_in more rest (drop (i * 50) b)
  pub filled : Filled b (buffers done) left (i * 50)
  pub records : length rest ≡ more * 128
  pub room : i * 50 + more * 50 ≡ length b

pub begun : (f : State) (s b : List ℕ) (size : ℕ) (rest : List ℕ) (i : ℕ) → batch_fits s b ≡ true → size ≡ 128 → rest ≡ s → i ≡ 0 → Progress f s b f b size rest i
begun f s b size rest i h n e z =
    rw (e, z)
    (record {
      whole = n;
      made = [];
      done = [];
      more = length s / 128;
      session = run_end;
      calls = refl;
      filled = filled_none b;
      records = omega (arith, whole-records (length s) (length b) h);
      room = omega (arith, replies_for_each (length s) (length b) h);
    })

module _ {f : State} {s b : List ℕ} {m : State} {left : List ℕ} {size : ℕ} {rest : List ℕ} {i : ℕ} (p : Progress f s b m left size rest i) where
  -- another record is there: so is the room for its reply
  module _ (x rest' : List ℕ) (split : rest ≡ x ++ rest') (full : length x ≡ size) where
    one : length x ≡ 128
    one = full ∙ p.whole

    long : length rest ≡ 128 + length rest'
    long = omega (arith, ap length split, length-append x rest', one)

    pub room_there : i * 50 + 50 ≤ length b
    room_there = omega (arith, p.records, p.room, long)

    -- one record more
    made_more : (y : List ℕ) (r : Handled) → Handles m x (take 50 (drop (i * 50) left)) y r → length y ≡ 50 → Progress f s b r.monitor (put_mid (i * 50) 50 left y) 128 rest' (i + 1)
    made_more y r g fifty = go p.more p.calls p.records p.room
      where
        call : Call
        call = record { bytes = x; buffer = take 50 (drop (i * 50) b) }

        given : Answer
        given = record { number = r.number; buffer = y }

        after : i * 50 + 50 ≡ (i + 1) * 50
        after = omega arith

        handled : Handles m x (take 50 (drop (i * 50) b)) y r
        handled = subst (λ (l : List ℕ). Handles m x l y r) (part_lent b (buffers p.done) left (i * 50) p.filled 50) g

        filled : Filled b (buffers (p.done ++ (given ∷ []))) (put_mid (i * 50) 50 left y) ((i + 1) * 50)
        filled =
            subst (λ (l : List ℕ). Filled b l (put_mid (i * 50) 50 left y) ((i + 1) * 50)) (ap (λ (l : List ℕ). buffers p.done ++ l) (sym (append-nil y)) ∙ sym (buffers-append p.done (given ∷ [])))
            (subst (Filled b (buffers p.done ++ y) (put_mid (i * 50) 50 left y)) after (filled_more b (buffers p.done) left (i * 50) p.filled 50 y fifty))

        first : (n : ℕ) → calls_in (suc n) rest (drop (i * 50) b) ≡ call ∷ calls_in n rest' (drop ((i + 1) * 50) b)
        first n =
            ap (λ (l : List ℕ). calls_in (suc n) l (drop (i * 50) b)) split
            ∙ ap₂ (λ (u v : List ℕ). record { bytes = u; buffer = take 50 (drop (i * 50) b) } ∷ calls_in n v (drop 50 (drop (i * 50) b))) (take_at x rest' 128 one) (drop_at x rest' 128 one)
            ∙ ap (λ (l : List ℕ). call ∷ calls_in n rest' l) (drop-drop 50 (i * 50) b ∙ ap (λ (k : ℕ). drop k b) after)

        go : (n : ℕ) → batch_calls s b ≡ p.made ++ calls_in n rest (drop (i * 50) b) → length rest ≡ n * 128 → i * 50 + n * 50 ≡ length b
            → Progress f s b r.monitor (put_mid (i * 50) 50 left y) 128 rest' (i + 1)
        go zero e k l = absurd (omega (arith, k, long))
        go (suc n) e k l =
            record {
              whole = refl;
              made = p.made ++ (call ∷ []);
              done = p.done ++ (given ∷ []);
              more = n;
              session = run-last {o = call} {r = given} p.session handled;
              calls = e ∙ ap (λ (cs : List Call). p.made ++ cs) (first n) ∙ sym (append_assoc p.made (call ∷ []) (calls_in n rest' (drop ((i + 1) * 50) b)));
              filled = filled;
              records = omega (arith, k, long);
              room = omega (arith, l);
            }

    -- the same where the loop says its numbers in its own way
    pub called : (to own size' i' : ℕ) → to ≡ i * 50 → own ≡ 50 → size' ≡ size → i' ≡ i + 1 → (y : List ℕ) (r : Handled) → Handles m x (take own (drop to left)) y r
        → length y ≡ length (take own (drop to left)) → Progress f s b r.monitor (put_mid to own left y) size' rest' i'
    called to own size' i' at w n c y r g sized =
        let room = same_room b (buffers p.done) left (i * 50) p.filled (omega (arith, p.room)) in
        let fifty : length (take 50 (drop (i * 50) left)) ≡ 50 = length-take-le 50 (drop (i * 50) left) (omega (arith, length-drop (i * 50) left, room, room_there)) in
        let handled = subst (λ (k : ℕ). Handles m x (take 50 (drop k left)) y r) at (subst (λ (k : ℕ). Handles m x (take k (drop to left)) y r) w g) in
        rw (at, w, n, p.whole, c)
        (made_more y r handled (sized ∙ ap₂ (λ (k l : ℕ). length (take k (drop l left))) w at ∙ fifty))

-- the buffers are not those of a batch
pub turned_away : (f : State) (s b : List ℕ) → batch_fits s b ≡ false → BatchHandles f s b b (record { number = 11; monitor = f })
turned_away f s b e = record { taken = λ t. absurd (true_not_false (batch_fits s b) t e); refused = λ n. record { is = refl; buffer = refl } }
