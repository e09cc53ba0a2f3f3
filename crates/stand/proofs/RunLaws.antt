-- A session worked operation by operation, over the buffers of a host.
-- Assumes nothing.
use Rattle.std.proofs.Common.{◌≡◌, refl, sym, ap, ap₂, ◌∙◌, subst, List, [], ◌∷◌, ◌++◌, map, append_assoc, append-nil, ℕ, ◌+◌, ◌-◌, ◌≤◌, ◌<◌, arith, length, take, drop, get_or, set, length-append, length-set, length-drop, drop_of_length-le, length-take-le, drop-drop, get_or-drop}
use borrow.Rule.Slice.PartMut.{put_mid}
use Rattle.follow.specs.declared.state.State.{State}
use Rattle.book.specs.Session.{run_end}
use Rattle.book.specs.Operations.{Operation, Result}
use Rattle.book.proofs.Runs.{run-last}
use Rattle.monitor.specs.Sessions.{Begun}
use Rattle.batch.proofs.PartLaws.{Filled, filled_none, part_lent, same_room, filled_more, filled-set, filled-all}
use Rattle.stand.specs.Operations.{OperatedAs, Operated}
use Rattle.stand.specs.Calls.{total, Fit}
use Rattle.stand.specs.declared.operations.Operation as code
use Rattle.stand.specs.Kinds.{Part, kind_of, Named, operation_of, operation_in, parts_of, operations_of, number_in, count_in, buffer_after, buffers_of, DoneAs, OperationsAnswered}
use Rattle.stand.specs.Done.{Done}
use Rattle.stand.proofs.KindLaws.{named_done}
use Rattle.stand.proofs.SizeLaws.{total_here, total-end, drop_here}
use Rattle.stand.proofs.WholeSession.{operations_are_book}

-- k operations are done: they are a run from a fresh monitor to f, and their results stand in the buffers
pub record Progress (ks s ns ws b cs es : List ℕ) (f : State) (left told counted : List ℕ) (at to k : ℕ) : Type 0 where
  pub fit : Fit s ns ws b cs
  pub first : State
  pub begun : Begun first
  pub made : List Part
  pub done : List Result
  pub as_many : length made ≡ length done
  pub session : Operated first (map operation_in made) done f
  pub parts : parts_of ks ns ws s b ≡ made ++ parts_of (drop k ks) (drop k ns) (drop k ws) (drop at s) (drop to b)
  pub numbers : Filled cs (map number_in done) told k
  pub counts : length es ≡ length ns → Filled es (map count_in done) counted k
  pub places : length counted ≡ length es
  pub replies : Filled b (buffers_of made done) left to
  pub records : at + total (drop k ns) ≡ length s
  pub room : to + total (drop k ws) ≡ length b

pub begun : (ks s ns ws b cs es : List ℕ) (f : State) → Fit s ns ws b cs → Begun f → Progress ks s ns ws b cs es f b cs es 0 0 0
begun ks s ns ws b cs es f h fresh =
    record {
      fit = h;
      first = f;
      begun = fresh;
      made = [];
      done = [];
      as_many = refl;
      session = run_end;
      parts = refl;
      numbers = filled_none cs;
      counts = λ e. filled_none es;
      places = refl;
      replies = filled_none b;
      records = omega (arith, h.records);
      room = omega (arith, h.replies);
    }

map-end : {A B : Type 0} (f : A → B) (l : List A) (a : A) → map f (l ++ (a ∷ [])) ≡ map f l ++ (f a ∷ [])
map-end f [] a = refl
map-end f (x ∷ l) a = ap (λ r. f x ∷ r) (map-end f l a)

buffers-end : (ps : List Part) (rs : List Result) (p : Part) (r : Result) → length ps ≡ length rs → buffers_of (ps ++ (p ∷ [])) (rs ++ (r ∷ [])) ≡ buffers_of ps rs ++ buffer_after p.lent r
buffers-end [] [] p r e = append-nil (buffer_after p.lent r)
buffers-end [] (x ∷ rs) p r e = absurd (omega arith)
buffers-end (q ∷ ps) [] p r e = absurd (omega arith)
buffers-end (q ∷ ps) (x ∷ rs) p r e =
    ap (λ (l : List ℕ). buffer_after q.lent x ++ l) (buffers-end ps rs p r (omega arith)) ∙ sym (append_assoc (buffer_after q.lent x) (buffers_of ps rs) (buffer_after p.lent r))

length-end : {A : Type 0} (l : List A) (a : A) → length (l ++ (a ∷ [])) ≡ length l + 1
length-end l a = length-append l (a ∷ [])

module _ (ks s ns ws b cs es : List ℕ) (f : State) (left told counted : List ℕ) (at to k : ℕ) (p : Progress ks s ns ws b cs es f left told counted at to k) where
  -- the buffers keep their lengths
  pub room_same : length left ≡ length b
  room_same = same_room b (buffers_of p.made p.done) left to p.replies (omega (arith, p.room))

  pub places_same : k ≤ length ns → length told ≡ length cs
  places_same few = same_room cs (map number_in p.done) told k p.numbers (omega (arith, p.fit.numbers, few))

  module _ (more : k < length ns) where
    size-there : k < length ws
    size-there = omega (arith, p.fit.sizes, more)

    -- where the reply buffer of the next operation ends
    part_ends : to + get_or ws k 0 ≤ length b
    part_ends = omega (arith, p.room, total_here k ws size-there)

    -- one operation more
    module _ (y : List ℕ) (d : Done) where
      abbrev n : ℕ
      n = get_or ns k 0

      abbrev w : ℕ
      w = get_or ws k 0

      abbrev next : Part
      next = record { kind = get_or ks k 0; records = take n (drop at s); lent = take w (drop to b) }

      abbrev others : List Part
      others = parts_of (drop (k + 1) ks) (drop (k + 1) ns) (drop (k + 1) ws) (drop (at + n) s) (drop (to + w) b)

      parts_here : parts_of (drop k ks) (drop k ns) (drop k ws) (drop at s) (drop to b) ≡ next ∷ others
      parts_here =
          let here : k + 0 ≡ k = omega arith in
          let part : ℕ → Part = λ i. record { kind = i; records = take n (drop at s); lent = take w (drop to b) } in
          ap₂ (λ (x z : List ℕ). parts_of (drop k ks) x z (drop at s) (drop to b)) (drop_here k ns more) (drop_here k ws size-there)
          ∙ ap₂ (λ (i : ℕ) (x : List ℕ). part i ∷ parts_of x (drop (k + 1) ns) (drop (k + 1) ws) (drop n (drop at s)) (drop w (drop to b))) (get_or-drop k ks 0 0 ∙ ap (λ (i : ℕ). get_or ks i 0) here) (drop-drop 1 k ks)
          ∙ ap₂ (λ (x z : List ℕ). next ∷ parts_of (drop (k + 1) ks) (drop (k + 1) ns) (drop (k + 1) ws) x z) (drop-drop n at s) (drop-drop w to b)

      pub step : DoneAs (get_or ks k 0) f (take n (drop at s)) (take w (drop to left)) y d → length y ≡ w
          → Progress ks s ns ws b cs es d.monitor (put_mid to w left y) (set told k d.number) (set counted k d.count) (at + n) (to + w) (k + 1)
      step h sized =
          let r : Result = h.result in
          let lent : take w (drop to left) ≡ take w (drop to b) = part_lent b (buffers_of p.made p.done) left to p.replies w in
          let m = length-end p.made next in
          let l = length-end p.done r in
          record {
            fit = p.fit;
            first = p.first;
            begun = p.begun;
            made = p.made ++ (next ∷ []);
            done = p.done ++ (r ∷ []);
            as_many = omega (arith, p.as_many);
            session =
                subst (λ (os : List Operation). Operated p.first os (p.done ++ (r ∷ [])) d.monitor) (sym (map-end operation_in p.made next))
                (run-last {o = operation_in next} {r = r} p.session (subst (λ (v : List ℕ). OperatedAs f (operation_of (get_or ks k 0) (take n (drop at s)) v) r d.monitor) lent h.operated));
            parts = p.parts ∙ ap (λ (v : List Part). p.made ++ v) parts_here ∙ sym (append_assoc p.made (next ∷ []) others);
            numbers =
                subst (λ (v : List ℕ). Filled cs v (set told k d.number) (k + 1)) (ap (λ (x : ℕ). map number_in p.done ++ (x ∷ [])) h.number ∙ sym (map-end number_in p.done r))
                (filled-set cs (map number_in p.done) told k p.numbers d.number (omega (arith, p.fit.numbers, more)));
            counts = λ e.
                subst (λ (v : List ℕ). Filled es v (set counted k d.count) (k + 1)) (ap (λ (x : ℕ). map count_in p.done ++ (x ∷ [])) h.count ∙ sym (map-end count_in p.done r))
                (filled-set es (map count_in p.done) counted k (p.counts e) d.count (omega (arith, e, more)));
            places = length-set counted k d.count ∙ p.places;
            replies =
                subst (λ (v : List ℕ). Filled b v (put_mid to w left y) (to + w))
                (ap (λ (v : List ℕ). buffers_of p.made p.done ++ v) (h.buffer ∙ ap (λ (v : List ℕ). buffer_after v r) lent) ∙ sym (buffers-end p.made p.done next r p.as_many))
                (filled_more b (buffers_of p.made p.done) left to p.replies w y sized);
            records = omega (arith, p.records, total_here k ns more);
            room = omega (arith, p.room, total_here k ws size-there);
          }

    -- the same, of the operation and the parts as the code has them
    pub worked : (o : code.Operation) (y after : List ℕ) (d : Done) → Named (get_or ks k 0) o → after ≡ set counted k d.count
        → DoneAs (kind_of o) f (take (at + get_or ns k 0 - at) (drop at s)) (take (to + get_or ws k 0 - to) (drop to left)) y d → length y ≡ length (take (to + get_or ws k 0 - to) (drop to left))
        → Progress ks s ns ws b cs es d.monitor (put_mid to (to + get_or ws k 0 - to) left y) (set told k d.number) after (at + get_or ns k 0) (to + get_or ws k 0) (k + 1)
    worked o y after d named ec h sized =
        let n : ℕ = get_or ns k 0 in
        let w : ℕ = get_or ws k 0 in
        let ed : to + w - to ≡ w = omega arith in
        let ee : at + n - at ≡ n = omega arith in
        let told' = set told k d.number in
        let h₁ = subst (λ (j : ℕ). DoneAs (kind_of o) f (take (at + n - at) (drop at s)) (take j (drop to left)) y d) ed h in
        let h₂ = subst (λ (j : ℕ). DoneAs (kind_of o) f (take j (drop at s)) (take w (drop to left)) y d) ee h₁ in
        let h₃ = named_done (get_or ks k 0) o f (take n (drop at s)) (take w (drop to left)) y d named h₂ in
        let room : w ≤ length (drop to left) = omega (arith, length-drop to left, part_ends, room_same) in
        let long : length y ≡ w = sized ∙ ap (λ (j : ℕ). length (take j (drop to left))) ed ∙ length-take-le w (drop to left) room in
        let q = subst (λ (v : List ℕ). Progress ks s ns ws b cs es d.monitor (put_mid to w left y) told' v (at + n) (to + w) (k + 1)) (sym ec) (step y d h₃ long) in
        subst (λ (j : ℕ). Progress ks s ns ws b cs es d.monitor (put_mid to j left y) told' after (at + n) (to + w) (k + 1)) (sym ed) q

  -- all operations are worked
  pub finished : length ns ≤ k → OperationsAnswered ks s ns ws b left told es counted
  finished end =
      let over : parts_of (drop k ks) (drop k ns) (drop k ws) (drop at s) (drop to b) ≡ [] = ap (λ (l : List ℕ). parts_of (drop k ks) l (drop k ws) (drop at s) (drop to b)) (drop_of_length-le ns end) in
      let all : p.made ≡ parts_of ks ns ws s b = sym (p.parts ∙ ap (λ (l : List Part). p.made ++ l) over ∙ append-nil p.made) in
      let ran = subst (λ (l : List Part). Operated p.first (map operation_in l) p.done f) all p.session in
      let book = operations_are_book p.first f (operations_of ks ns ws s b) p.done p.begun ran in
      let spent = total-end k ws (omega (arith, p.fit.sizes, end)) in
      record {
        ran = record { first = p.first; last = f; begun = p.begun; session = subst (λ (rs : List Result). Operated p.first (operations_of ks ns ws s b) rs f) book ran };
        numbers = filled-all cs (map number_in p.done) told k p.numbers (omega (arith, p.fit.numbers, end)) ∙ ap (map number_in) book;
        counts = λ e. filled-all es (map count_in p.done) counted k (p.counts e) (omega (arith, e, end)) ∙ ap (map count_in) book;
        replies = filled-all b (buffers_of p.made p.done) left to p.replies (omega (arith, p.room, spent)) ∙ ap₂ buffers_of all book;
      }
