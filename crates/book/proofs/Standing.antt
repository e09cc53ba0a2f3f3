-- Demand 3, second part, over operations: every book has a story of single calls, and so every event of its list meets what it met when it was committed.
-- Assumes nothing.
use Rattle.std.proofs.Common.{◌≡◌, refl, sym, ap, ◌∙◌, subst, Bool, true, false, cond, List, [], ◌∷◌, ◌++◌, append_assoc, append-nil, ℕ, arith, length}
use Rattle.std.proofs.Math.Option.{Option, none, some}
use Rattle.common.specs.All.{All}
use Rattle.common.proofs.AllLaws.{all_map}
use Rattle.lexer.specs.Words.{same}
use Rattle.patterns.specs.Meets.{order_of, meets}
use Rattle.book.specs.Names.{Event}
use Rattle.book.specs.Decide.{Call, Decision}
use Rattle.book.specs.Book.{Book, fresh_book, book_duties, book_step}
use Rattle.book.specs.MachineSteps.{PositionMachine}
use Rattle.book.specs.Session.{left}
use Rattle.book.specs.Restoring.{restored}
use Rattle.book.specs.Operations.{Operation, call, batch, keep, restore, keep_fits, calls_by, calls_made}
use Rattle.book.specs.SessionBook.{SessionBook, fresh_session, book_image, book_from, own_snapshot, book_restored, book_operate}
use Rattle.book.specs.Standing.{Unrestored, Part, part_end, part_take, part_skip, Start, start-fresh, start_image, Story, Stands}
use Rattle.intake.proofs.Held.{Held}
use Rattle.book.proofs.Decided.{Good}
use Rattle.book.proofs.Agree.{Sound, fresh_sound, decision_good, step_sound}
use Rattle.book.proofs.Runs.{left-append}
use Rattle.book.proofs.Batches.{batch-leaves}
use Rattle.book.proofs.Kept.{later-keeps, committed-held, committed_from}
use Rattle.book.proofs.WholeSteps.{own_found, from_placed}

-- PARTS OF A LIST

module _ {A : Type 0} where
  -- none of a list
  part_none : (w : List A) → Part [] w
  part_none [] = part_end
  part_none (a ∷ w) = part_skip (part_none w)

  -- all of it
  part_all : (w : List A) → Part w w
  part_all [] = part_end
  part_all (a ∷ w) = part_take (part_all w)

  -- of a longer one
  part_more : {v w : List A} (x : List A) → Part v w → Part v (w ++ x)
  part_more x part_end = part_none x
  part_more x (part_take h) = part_take (part_more x h)
  part_more x (part_skip h) = part_skip (part_more x h)

  -- and with what makes it longer
  part_both : {v w : List A} (x : List A) → Part v w → Part (v ++ x) (w ++ x)
  part_both x part_end = part_all x
  part_both x (part_take h) = part_take (part_both x h)
  part_both x (part_skip h) = part_skip (part_both x h)

-- EVERY BOOK HAS A STORY

-- the book now, and those kept
record Stories (made : List Call) (s : SessionBook) : Type 0 where
  now : Story made s.book
  before : All (Story made) s.snapshots

-- more calls were made that this book does not have
longer : {made : List Call} (x : List Call) (b : Book) → Story made b → Story (made ++ x) b
longer x b h = record { start = h.start; begins = h.begins; calls = h.calls; some-made = part_more x h.some-made; leaves = h.leaves }

-- more calls were made, on this book
further : {made : List Call} (x : List Call) (b : Book) → Story made b → Story (made ++ x) (left book_step b x)
further x b h =
    record {
      start = h.start;
      begins = h.begins;
      calls = h.calls ++ x;
      some-made = part_both x h.some-made;
      leaves = left-append book_step h.start h.calls x ∙ ap (λ (c : Book). left book_step c x) h.leaves;
    }

module _ (made : List Call) (s : SessionBook) (h : Stories made s) where
  -- the books kept have their stories still
  kept_stories : (x : List Call) → All (Story (made ++ x)) s.snapshots
  kept_stories x = all_map (Story made) (Story (made ++ x)) (λ b k. longer x b k) s.snapshots h.before

  -- where nothing is made and nothing changes
  same_stories : Stories (made ++ []) s
  same_stories = record { now = longer [] s.book h.now; before = kept_stories [] }

  -- a book that is kept has the story of the book now
  keep_stories : (q : Bool) → Stories (made ++ []) (cond q (record { book = s.book; snapshots = s.book ∷ s.snapshots; entered = s.entered }) s)
  keep_stories true = let n = longer [] s.book h.now in record { now = n; before = (n, kept_stories []) }
  keep_stories false = same_stories

  -- a book that is restored has its own story, and one from elsewhere begins there
  restore_stories : (image : List ℕ) (o : Option Book) (r : Option PositionMachine) → own_snapshot s image ≡ o → restored image ≡ r → Stories (made ++ []) (book_restored s o r).0
  restore_stories image (some b) r f g = record { now = longer [] b (own_found (Story made) s h.before image b f).0; before = kept_stories [] }
  restore_stories image none none f g = same_stories
  restore_stories image none (some t) f g =
      record { now = record { start = book_from t; begins = start_image image t g; calls = []; some-made = part_none (made ++ []); leaves = refl }; before = kept_stories [] }

  -- each kind of operation
  operate_stories : (o : Operation) → Stories (made ++ calls_by o) (book_operate s o).0
  operate_stories (call c) = record { now = further (c ∷ []) s.book h.now; before = kept_stories (c ∷ []) }
  operate_stories (batch r b) =
      let cs : List Call = calls_by (batch r b) in
      record { now = subst (Story (made ++ cs)) (sym (batch-leaves book_step s.book r b)) (further cs s.book h.now); before = kept_stories cs }
  operate_stories (keep lent) = keep_stories (keep_fits (book_image s.book) lent)
  operate_stories (restore image) = restore_stories image (own_snapshot s image) (restored image) refl refl

-- any operations
left_stories : (os : List Operation) (made : List Call) (s : SessionBook) → Stories made s → Stories (made ++ calls_made os) (left book_operate s os)
left_stories [] made s h = subst (λ (x : List Call). Stories x s) (sym (append-nil made)) h
left_stories (o ∷ os) made s h =
    subst (λ (x : List Call). Stories x (left book_operate s (o ∷ os))) (append_assoc made (calls_by o) (calls_made os))
    (left_stories os (made ++ calls_by o) (book_operate s o).0 (operate_stories made s h o))

-- After any operations the book is what some of the calls made leave, in order, on a fresh book or on one of an image from elsewhere; "later acts are forgotten".
pub book_story : (os : List Operation) → Story (calls_made os) (left book_operate fresh_session os).book
book_story os = (left_stories os [] fresh_session (record { now = record { start = fresh_book; begins = start-fresh; calls = []; some-made = part_end; leaves = refl }; before = tt })).now

-- THE SECOND PART of demand 3

-- what a history begins with is in order
start_sound : {b : Book} → Start b → Sound b
start_sound start-fresh = fresh_sound
start_sound (start_image s t e) = (from_placed s t e).sound

-- it has no events
start-empty : {b : Book} → Start b → length b.history ≡ 0
start-empty start-fresh = refl
start-empty (start_image s t e) = refl

-- calls leave a book in order
left_sound : (cs : List Call) (b : Book) → Sound b → Sound (left book_step b cs)
left_sound [] b s = s
left_sound (c ∷ cs) b s = left_sound cs (book_step b c).0 (step_sound b s c)

-- an event of the list of a book with a story
story_stands : (made : List Call) (b : Book) → Story made b → (u : List Event) (e : Event) (v : List Event) → b.history ≡ u ++ (e ∷ v) → Stands made b u e
story_stands made b h u e v q =
    let z = start-empty h.begins in
    let r = committed_from h.calls h.start u e v (omega arith) (ap (λ (x : Book). x.history) h.leaves ∙ q) in
    let a : Book = left book_step h.start r.before in
    let s : Sound a = left_sound r.before h.start (start_sound h.begins) in
    let k : Held a.roles e =
    committed-held a.roles (book_duties a) r.call e r.count (subst (λ (d : Decision). Good a.roles (book_duties a) r.call d) r.commits (decision_good a s r.call)) in
    let l = later-keeps e (r.call ∷ r.later) a s k in
    let c : left book_step h.start (r.before ++ (r.call ∷ r.later)) ≡ b = ap (left book_step h.start) (sym r.calls) ∙ h.leaves in
    let m : left book_step a (r.call ∷ r.later) ≡ b = sym (left-append book_step h.start r.before (r.call ∷ r.later)) ∙ c in
    record {
      start = h.start;
      begins = h.begins;
      before = r.before;
      call = r.call;
      later = r.later;
      count = r.count;
      some-made = subst (λ (x : List Call). Part x made) r.calls h.some-made;
      leaves = c;
      list = r.list;
      commits = r.commits;
      meets-same = λ p g.
          let x : meets (order_of same b.roles) e p ≡ meets (order_of same a.roles) e p = ap (λ (y : Book). meets (order_of same y.roles) e p) (sym m) ∙ l.alike p in
          (λ t. x ∙ t, λ t. sym x ∙ t);
    }

-- Any event e in the list after any operations.
pub events_stand : (os : List Operation) (u : List Event) (e : Event) (v : List Event) → (left book_operate fresh_session os).book.history ≡ u ++ (e ∷ v)
    → Stands (calls_made os) (left book_operate fresh_session os).book u e
events_stand os u e v q = story_stands (calls_made os) (left book_operate fresh_session os).book (book_story os) u e v q

-- WHERE NOTHING IS RESTORED

-- an operation that restores nothing leaves the book that its calls leave
calls-left : (s : SessionBook) (o : Operation) → Unrestored o → (book_operate s o).0.book ≡ left book_step s.book (calls_by o)
calls-left s (call c) h = refl
calls-left s (batch r b) h = batch-leaves book_step s.book r b
calls-left s (keep lent) h = go (keep_fits (book_image s.book) lent)
  where
    go : (q : Bool) → (cond q (record { book = s.book; snapshots = s.book ∷ s.snapshots; entered = s.entered }) s).book ≡ s.book
    go true = refl
    go false = refl
calls-left s (restore image) h = absurd h

-- "Replies and monitor must be those of n single calls in the same order."; keeping leaves the book: what operations leave is what their single calls leave
pub operations_as_calls : (os : List Operation) (s : SessionBook) → All Unrestored os → (left book_operate s os).book ≡ left book_step s.book (calls_made os)
operations_as_calls [] s h = refl
operations_as_calls (o ∷ os) s h =
    operations_as_calls os (book_operate s o).0 h.1 ∙ ap (λ (b : Book). left book_step b (calls_made os)) (calls-left s o h.0) ∙ sym (left-append book_step s.book (calls_by o) (calls_made os))
