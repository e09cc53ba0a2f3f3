-- The judge says yes exactly when Appendix A does, of the events that the records say.
-- Assumes nothing.
use Rattle.std.proofs.Common.{◌≡◌, refl, sym, ap, ◌∙◌, cond, List, [], ◌∷◌, ◌++◌, ℕ}
use Rattle.lexer.specs.Words.{same}
use Rattle.grammar.specs.AsRead.{Past}
use Rattle.patterns.specs.Meets.{order_of, meets}
use Rattle.positions.specs.Matcher.{matches}
use Rattle.follow.specs.Meaning.{past_meaning}
use Rattle.intake.specs.Names.{Event, Roles}
use Rattle.judge.specs.Judge.{RecordAnswer, an_event, record_answer, on_answer, judge_records}
use Rattle.judge.specs.Verdict.{Yes, No}

-- the records say these events, one each
pub data Say (rs : Roles) : List (List ℕ) → List Event → Type 0 where
  say_none : Say rs [] []
  say_more : {r : List ℕ} {l : List (List ℕ)} {e : Event} {es : List Event} → record_answer rs r ≡ an_event e → Say rs l es → Say rs (r ∷ l) (e ∷ es)

append-end : (es : List Event) (e : Event) (fs : List Event) → (es ++ (e ∷ [])) ++ fs ≡ es ++ (e ∷ fs)
append-end [] e fs = refl
append-end (x ∷ es) e fs = ap (λ (l : List Event). x ∷ l) (append-end es e fs)

module _ (rs : Roles) (p : Past) where
  -- where the records say events, the answer is the matcher's
  pub said_judged : (es : List Event) (l : List (List ℕ)) (fs : List Event) → Say rs l fs → judge_records rs p es l ≡ cond (matches (meets (order_of same rs)) (past_meaning p) (es ++ fs)) Yes No
  unfolding judge_records
  said_judged es [] (e ∷ fs) x'' = elim x'' [ ]
  said_judged es (r ∷ l) [] x3 = elim x3 [ ]
  said_judged es [] [] say_none = ap (λ (k : List Event). cond (matches (meets (order_of same rs)) (past_meaning p) k) Yes No) (sym (nil es))
    where
      nil : (k : List Event) → k ++ [] ≡ k
      nil [] = refl
      nil (x ∷ k) = ap (λ (m : List Event). x ∷ m) (nil k)
  said_judged es (r ∷ l) (e ∷ fs) (say_more h k) =
      ap (λ (x : RecordAnswer). on_answer x (λ y. judge_records rs p (es ++ (y ∷ [])) l)) h
      ∙ said_judged (es ++ (e ∷ [])) l fs k
      ∙ ap (λ (m : List Event). cond (matches (meets (order_of same rs)) (past_meaning p) m) Yes No) (append-end es e fs)
