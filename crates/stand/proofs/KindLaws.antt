-- Kinds of operations, and what a host that names none hands over.
-- Assumes nothing.
use Rattle.std.proofs.Common.{◌≡◌, Result, Ok, Err, true, false, ℕ, zero, suc, List, [], ◌∷◌, ◌++◌, map, length, take, drop, eqb, leb, refl, sym, ap, ◌∙◌, subst, arith, is_ok, eqb-true, eq-eqb, ne_eqb}
use Rattle.std.specs.List.{list_all}
use Rattle.std.proofs.lemmas.Bool.{lt-leb}
use Rattle.common.proofs.Bools.{and_left, and_right, and_both, true_not_false}
use Rattle.follow.specs.declared.state.State.{State}
use Rattle.book.specs.Decide.{Answer}
use Rattle.book.specs.Book.{fresh_book, book_step}
use Rattle.book.specs.Session.{answers}
use Rattle.book.specs.Batches.{buffers}
use Rattle.book.specs.Operations.{Operation as Asked, call, answered, kept, replaced}
use Rattle.book.specs.SessionBook.{fresh_session, book_operate}
use Rattle.book.proofs.Runs.{answers-long}
use Rattle.book.proofs.Whole.{calls_alone}
use Rattle.common.specs.Refusals.{answer_number}
use Rattle.common.specs.declared.refusals.Refusal.{Refusal}
use Rattle.monitor.specs.Handled.{Handles, handled_as}
use Rattle.batch.specs.Handled.{BatchHandles}
use Rattle.snapshot.specs.Written.{Keeps, count_written}
use Rattle.snapshot.specs.Reading.{Restores}
use Rattle.stand.specs.Operations.{OperatedAs, by_call, by_batch, by_keep, by_restore, Ran}
use Rattle.stand.specs.Calls.{calls_of, book_answers, Fit, all_fit, SessionAnswered, SessionRun}
use Rattle.stand.specs.Done.{Done, done_of, uncounted}
use Rattle.stand.specs.declared.operations.Operation.{Operation}
use Rattle.stand.specs.Kinds.{kind_of, named_by, operations_fit, Named, parts_of, operations_of, all_known, number_in, buffers_of, DoneAs, book_results, OperationsFit, OperationsAnswered, OperationsRun}
use Rattle.stand.proofs.SizeLaws.{fit_told, told_fit}

-- WHETHER ALL ARE KNOWN

-- the kinds that name an operation are those up to 3
names_one : (k : ℕ) → is_ok (named_by k) ≡ leb k 3
names_one zero = refl
names_one (suc zero) = refl
names_one (suc (suc zero)) = refl
names_one (suc (suc (suc zero))) = refl
names_one (suc (suc (suc (suc k)))) =
    let n : ℕ = suc (suc (suc (suc k))) in
    rw (ne_eqb n 0 (λ e. absurd (omega arith)), ne_eqb n 1 (λ e. absurd (omega arith)), ne_eqb n 2 (λ e. absurd (omega arith)), ne_eqb n 3 (λ e. absurd (omega arith)), lt-leb n 3 (omega arith)) refl

pub known_all : (l : List ℕ) → all_known l ≡ list_all (λ k. is_ok (named_by k)) l
unfolding all_known
known_all [] = refl
known_all (k ∷ l) = rw (names_one k, known_all l) refl

-- WHETHER ALL FIT

pub operations_fit_told : (ks s ns ws b cs es : List ℕ) → operations_fit ks ns (length s) ws (length b) (length cs) (length es) ≡ true → OperationsFit ks s ns ws b cs es
unfolding operations_fit
operations_fit_told ks s ns ws b cs es e₀ =
    let e₁ = and_right (all_known ks) _ e₀ in
    let e₂ = and_right (eqb (length ks) (length ns)) _ e₁ in
    record {
      known = and_left (all_known ks) _ e₀;
      kinds = eqb-true (length ks) (length ns) (and_left (eqb (length ks) (length ns)) _ e₁);
      counts = eqb-true (length es) (length ns) (and_left (eqb (length es) (length ns)) _ e₂);
      sizes = fit_told s ns ws b cs (and_right (eqb (length es) (length ns)) _ e₂);
    }

told_operations_fit : (ks s ns ws b cs es : List ℕ) → OperationsFit ks s ns ws b cs es → operations_fit ks ns (length s) ws (length b) (length cs) (length es) ≡ true
unfolding operations_fit
told_operations_fit ks s ns ws b cs es f =
    and_both f.known (and_both (eq-eqb (length ks) (length ns) f.kinds) (and_both (eq-eqb (length es) (length ns) f.counts) (told_fit s ns ws b cs f.sizes)))

-- BY KIND

-- what the operation does is done as the kind names it
pub named_done : (k : ℕ) (o : Operation) (m : State) (s lent left : List ℕ) (d : Done) → Named k o → DoneAs (kind_of o) m s lent left d → DoneAs k m s lent left d
named_done k o m s lent left d n h =
    record {
      result = h.result;
      operated = subst (λ (x : Asked). OperatedAs m x h.result d.monitor) (sym (n.same s lent)) h.operated;
      number = h.number;
      count = h.count;
      buffer = h.buffer;
    }

-- an answer without records has its number, and counts none
uncounted-number : (r : Result (Unit {0}) Refusal) → answer_number (uncounted r) ≡ answer_number r
uncounted-number (Ok u) = refl
uncounted-number (Err e) = refl

uncounted-none : (r : Result (Unit {0}) Refusal) → count_written (uncounted r) ≡ 0
uncounted-none (Ok u) = refl
uncounted-none (Err e) = refl

module _ (m : State) (s lent left : List ℕ) where
  module _ (r : Result (Unit {0}) Refusal) (a : Result ℕ Refusal) (after : State) (e : a ≡ uncounted r) where
    number-is : answer_number a ≡ answer_number r
    number-is = ap answer_number e ∙ uncounted-number r

    none-counted : count_written a ≡ 0
    none-counted = ap count_written e ∙ uncounted-none r

    pub by_batch_kind : BatchHandles m s lent left (handled_as r after) → DoneAs 1 m s lent left (done_of a after)
    by_batch_kind h = record { result = answered (record { number = answer_number r; buffer = left }); operated = by_batch h; number = number-is; count = none-counted; buffer = refl }

    pub by_restore_kind : left ≡ lent → Restores m s (handled_as r after) → DoneAs 3 m s lent left (done_of a after)
    by_restore_kind q h = record { result = replaced (answer_number r); operated = by_restore h; number = number-is; count = none-counted; buffer = q }

    pub by_call_kind : Handles m s lent left (handled_as r after) → DoneAs 0 m s lent left (done_of a after)
    by_call_kind h = record { result = answered (record { number = answer_number r; buffer = left }); operated = by_call h; number = number-is; count = none-counted; buffer = refl }

  pub by_keep_kind : (r : Result ℕ Refusal) (after : State) → Keeps m lent left (record { number = answer_number r; count = count_written r; monitor = after }) → DoneAs 2 m s lent left (done_of r after)
  by_keep_kind r after h = record { result = kept (answer_number r) (count_written r) left; operated = by_keep h; number = refl; count = refl; buffer = refl }

-- NO KINDS: single calls

calls_by_kind : (ns ws s b : List ℕ) → operations_of [] ns ws s b ≡ map call (calls_of ns ws s b)
calls_by_kind [] ws s b = refl
calls_by_kind (n ∷ ns) [] s b = refl
calls_by_kind (n ∷ ns) (w ∷ ws) s b = ap (λ l. call (record { bytes = take n s; buffer = take w b }) ∷ l) (calls_by_kind ns ws (drop n s) (drop w b))

results_by_kind : (s ns ws b : List ℕ) → book_results [] s ns ws b ≡ map answered (book_answers s ns ws b)
results_by_kind s ns ws b = ap (answers book_operate fresh_session) (calls_by_kind ns ws s b) ∙ calls_alone fresh_session (calls_of ns ws s b)

numbers_back : (xs : List Answer) → map number_in (map answered xs) ≡ map (λ (x : Answer). x.number) xs
numbers_back [] = refl
numbers_back (x ∷ xs) = ap (λ (l : List ℕ). x.number ∷ l) (numbers_back xs)

-- as many answers as calls, so every part of the buffer is an answer's
buffers_back : (ns ws s b : List ℕ) (xs : List Answer) → length xs ≡ length (calls_of ns ws s b) → buffers_of (parts_of [] ns ws s b) (map answered xs) ≡ buffers xs
buffers_back [] ws s b [] h = refl
buffers_back [] ws s b (x ∷ xs) h = absurd (omega arith)
buffers_back (n ∷ ns) [] s b [] h = refl
buffers_back (n ∷ ns) [] s b (x ∷ xs) h = absurd (omega arith)
buffers_back (n ∷ ns) (w ∷ ws) s b [] h = absurd (omega arith)
buffers_back (n ∷ ns) (w ∷ ws) s b (x ∷ xs) h = ap (λ (l : List ℕ). x.buffer ++ l) (buffers_back ns ws (drop n s) (drop w b) xs (omega arith))

-- what the run of the operations gives, said of the calls
pub calls-answered : (s ns ws lent left told es counted : List ℕ) → OperationsAnswered [] s ns ws lent left told es counted → SessionAnswered s ns ws lent left told
calls-answered s ns ws lent left told es counted h =
    let e = results_by_kind s ns ws lent in
    let xs = book_answers s ns ws lent in
    record {
      ran = subst (λ os. Ran os (map answered xs)) (calls_by_kind ns ws s lent) (subst (Ran (operations_of [] ns ws s lent)) e h.ran);
      numbers = h.numbers ∙ ap (map number_in) e ∙ numbers_back xs;
      replies = h.replies ∙ ap (buffers_of (parts_of [] ns ws s lent)) e ∙ buffers_back ns ws s lent xs (answers-long book_step fresh_book (calls_of ns ws s lent));
    }

-- THE TWO SESSIONS OF THE LIBRARY, by what their tests tell

pub session-refused : (s ns ws lent cs : List ℕ) → all_fit ns (length s) ws (length lent) (length cs) ≡ false → SessionRun s ns ws lent lent cs cs 11
session-refused s ns ws lent cs e =
    let h : Fit s ns ws lent cs → ⊥ = λ f. true_not_false (all_fit ns (length s) ws (length lent) (length cs)) (told_fit s ns ws lent cs f) e in
    record { taken = λ f. absurd (h f); refused = λ n. (refl, refl, refl) }

pub session-taken : (s ns ws lent left cs told es counted : List ℕ) → Fit s ns ws lent cs → OperationsAnswered [] s ns ws lent left told es counted → SessionRun s ns ws lent left cs told 0
session-taken s ns ws lent left cs told es counted h a = record { taken = λ f. (refl, calls-answered s ns ws lent left told es counted a); refused = λ n. absurd (n h) }

pub operations_refused : (ks s ns ws lent cs es : List ℕ) → operations_fit ks ns (length s) ws (length lent) (length cs) (length es) ≡ false → OperationsRun ks s ns ws lent lent cs cs es es 11
operations_refused ks s ns ws lent cs es e =
    let h : OperationsFit ks s ns ws lent cs es → ⊥ = λ f. true_not_false (operations_fit ks ns (length s) ws (length lent) (length cs) (length es)) (told_operations_fit ks s ns ws lent cs es f) e in
    record { taken = λ f. absurd (h f); refused = λ n. (refl, refl, refl, refl) }

pub operations_taken : (ks s ns ws lent left cs told es counted : List ℕ) → OperationsFit ks s ns ws lent cs es → OperationsAnswered ks s ns ws lent left told es counted
    → OperationsRun ks s ns ws lent left cs told es counted 0
operations_taken ks s ns ws lent left cs told es counted h a = record { taken = λ f. (refl, a); refused = λ n. absurd (n h) }
