-- The records of a buffer in turn: each says an event, or a first one is refused.
-- Assumes nothing.
use Rattle.std.proofs.Common.{◌≡◌, ap, ◌∙◌, refl, true, ◌⊎◌, inl, inr, ⊎_elim, List, [], ◌∷◌, ◌++◌, ℕ, zero, suc, ◌*◌, ◌/◌, ◌%◌, ◌<◌, arith, eqb, leb, length, length-drop, drop, length-take-le, eqb-true, leb-true, eq-eqb, le-leb}
use Rattle.common.proofs.Bools.{and_left, and_right}
use Rattle.grammar.specs.AsRead.{Past}
use Rattle.frame.specs.Records.{records_of}
use Rattle.common.specs.All.{All}
use Rattle.intake.specs.Names.{Event, Roles}
use Rattle.judge.specs.Judge.{RecordAnswer, an_event, refusal, record_answer, on_answer, judge_records, is_whole, number_of}
use Rattle.judge.specs.Rows.{Whole, record_3, record_3_line, record_4, record_6, Acts, acts-none, acts-more, FirstRefused, refused-first, refused-after}
use Rattle.judge.proofs.RecordExactly.{RecordAnswers, record_answers, act_answer, refusal-answer}
use Rattle.judge.proofs.Verdicts.{Say, say_none, say_more}

abbrev pub Sized : List (List ℕ) → Type 0
Sized l = All (λ r. length r ≡ 128) l

pub records-sized : (n : ℕ) (s : List ℕ) → length s ≡ n * 128 → Sized (records_of n s)
records-sized zero s e = tt
records-sized (suc n) s e = (length-take-le 128 s (omega arith), records-sized n (drop 128 s) (length-drop 128 s ∙ omega arith))

pub true_whole : (s : List ℕ) → is_whole s ≡ true → Whole s (length s / 128)
unfolding is_whole
true_whole s e =
    let m = eqb-true (length s % 128) 0 (and_left (eqb (length s % 128) 0) (leb (length s) 32768) e) in
    let l = leb-true (length s) 32768 (and_right (eqb (length s % 128) 0) (leb (length s) 32768) e) in
    record { size = omega arith; few = omega arith }

module _ (s : List ℕ) (n : ℕ) (w : Whole s n) where
  pub whole_true : is_whole s ≡ true
  unfolding is_whole
  whole_true =
      let e = w.size in
      let l = w.few in
      rw (eq-eqb (length s % 128) 0 (omega arith), le-leb (length s) 32768 (omega arith)) refl

  pub whole-count : length s / 128 ≡ n
  whole-count = let e = w.size in omega arith

module _ (rs : Roles) (p : Past) where
  -- every record says an event, or a first one is refused, and with the answer's number
  abbrev pub Told : List Event → List (List ℕ) → Type 0
  Told es l = ((fs : List Event) × Acts rs l fs) ⊎ FirstRefused rs l (number_of (judge_records rs p es l))

  pub records-told : (es : List Event) (l : List (List ℕ)) → Sized l → Told es l
  unfolding judge_records
  records-told es [] z = inl ([], acts-none)
  records-told es (r ∷ l) z = go (record_answer rs r) (record_answers rs r z.0) (λ e. records-told (es ++ (e ∷ [])) l z.1)
    where
      go : (h : RecordAnswer) → RecordAnswers rs r h → ((e : Event) → Told (es ++ (e ∷ [])) l)
          → ((fs : List Event) × Acts rs (r ∷ l) fs) ⊎ FirstRefused rs (r ∷ l) (number_of (on_answer h (λ e. judge_records rs p (es ++ (e ∷ [])) l)))
      go (an_event e) a more = ⊎_elim (λ x. inl (e ∷ x.0, acts-more a x.1)) (λ k. inr (refused-after a k)) (more e)
      go (refusal v) k more = inr (refused-first k)

  pub acts_say : (l : List (List ℕ)) (es : List Event) → Acts rs l es → Say rs l es
  acts_say [] (e ∷ es) x'' = elim x'' [ ]
  acts_say (r ∷ l) [] x3 = elim x3 [ ]
  acts_say [] [] acts-none = say_none
  acts_say (r ∷ l) (e ∷ es) (acts-more a h) = say_more (act_answer rs r e a) (acts_say l es h)

  pub record_refused_number : (es : List Event) (l : List (List ℕ)) (k : ℕ) → FirstRefused rs l k → number_of (judge_records rs p es l) ≡ k
  unfolding judge_records
  record_refused_number es [] k x' = elim x' [ ]
  record_refused_number es (r ∷ l) k (refused-first h) =
      let d = refusal-answer rs r k h in
      ap (λ (x : RecordAnswer). number_of (on_answer x (λ e. judge_records rs p (es ++ (e ∷ [])) l))) d.1 ∙ d.2
  record_refused_number es (r ∷ l) k (refused-after {e = e} a h) =
      ap (λ (x : RecordAnswer). number_of (on_answer x (λ y. judge_records rs p (es ++ (y ∷ [])) l))) (act_answer rs r e a) ∙ record_refused_number (es ++ (e ∷ [])) l k h

-- a record's refusal has a number that is not 0
pub refused_number_above : (rs : Roles) (l : List (List ℕ)) (k : ℕ) → FirstRefused rs l k → 0 < k
refused_number_above rs [] k x' = elim x' [ ]
refused_number_above rs (r ∷ l) k (refused-first (record_3 h)) = omega arith
refused_number_above rs (r ∷ l) k (refused-first (record_3_line h)) = omega arith
refused_number_above rs (r ∷ l) k (refused-first (record_4 f h)) = omega arith
refused_number_above rs (r ∷ l) k (refused-first (record_6 f h u)) = omega arith
refused_number_above rs (r ∷ l) k (refused-after a h) = refused_number_above rs l k h
