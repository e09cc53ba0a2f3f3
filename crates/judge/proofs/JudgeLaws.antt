-- The judge's answer by the number, the size of the list, and the list.
-- Assumes nothing.
use Rattle.std.proofs.Common.{◌≡◌, refl, sym, ap, ◌∙◌, subst, true, false, List, [], ◌∷◌, ⊎_elim, ℕ, zero, suc, ◌/◌, ◌≤◌, ◌<◌, arith, length, take}
use Rattle.std.proofs.Math.Option.{none, some}
use Rattle.patterns.proofs.AboveLaws.{split}
use Rattle.follow.specs.State as state
use Rattle.follow.specs.declared.state.State.{State}
use Rattle.intake.specs.Names.{Rule}
use Rattle.intake.specs.Machine.{PositionRule, PositionMachine}
use Rattle.intake.specs.Represents.{RuleIs, Rules, rules-none, rules-more, Represents}
use Rattle.intake.proofs.TakenNames.{rules-long}
use Rattle.judge.specs.Judge.{rule_numbered, is_whole, judge_of}
use Rattle.judge.specs.Judging.{ListJudged, Lent, lent_of, Judged}
use Rattle.judge.proofs.RuleNumbers.{not-newest, is-newest, none_at}
use Rattle.judge.proofs.RecordsExactly.{true_whole}
use Rattle.judge.specs.Verdict.{Verdict, NoRule, NotWhole}

-- rule i of those kept is the one that the machine has by that number
abbrev Found : State → List PositionRule → ℕ → Type 0
Found f l i = (x : Rule) × RuleIs f.sheet i x × (rule_numbered l i ≡ some x)

rule_at_lem : (f : State) (k : ℕ) (l : List PositionRule) (i : ℕ) → Rules f k l → i < k → Found f l i
rule_at_lem f zero (y ∷ l) i x4 h = elim x4 [ ]
rule_at_lem f (suc k) [] i x4 h = elim x4 [ ]
rule_at_lem f zero [] i rules-none h = absurd (omega arith)
rule_at_lem f (suc k) (y ∷ l) i (rules-more is rest) h = ⊎_elim (λ m. before (rule_at_lem f k l i rest m) m) latest (split i k (omega arith))
  where
    n : length l ≡ k
    n = rules-long f k l rest

    before : Found f l i → i < k → Found f (y ∷ l) i
    before d m = (d.0, d.1, not-newest y l i (λ e. absurd (omega (arith, n))) ∙ d.2)

    latest : i ≡ k → Found f (y ∷ l) i
    latest e = (y.rule, subst (λ (j : ℕ). RuleIs f.sheet j y.rule) (sym e) is.rule, is-newest y l i (e ∙ sym n))

no_rule_at : (f : State) (k : ℕ) (l : List PositionRule) (i : ℕ) → Rules f k l → k ≤ i → rule_numbered l i ≡ none
no_rule_at f k l i rules h = none_at l i (subst (λ (j : ℕ). j ≤ i) (sym (rules-long f k l rules)) h)

module _ (l : Lent) (i : ℕ) (s : List ℕ) where
  -- 9
  pub judged_none : l.rules ≤ i → Judged l i s NoRule
  unfolding judge_of
  judged_none h = record { right = λ f e t rep. rw (no_rule_at f f.sheet.rule_count t.rules i rep.rules (subst (λ (k : Lent). k.rules ≤ i) e h)) refl }

  found : (f : State) → l ≡ lent_of f.sheet → (t : PositionMachine) → Represents f t → i < l.rules → Found f t.rules i
  found f e t rep h = rule_at_lem f f.sheet.rule_count t.rules i rep.rules (subst (λ (k : Lent). i < k.rules) e h)

  -- 10
  pub judged_part : i < l.rules → is_whole s ≡ false → Judged l i s NotWhole
  unfolding judge_of
  judged_part h w = record { right = λ f e t rep. let d = found f e t rep h in rw (d.2, w) refl }

  pub judged_list : i < l.rules → is_whole s ≡ true → (r : Verdict) → ListJudged (state.rule_in l.rows l.ends i) 1 s (take l.roles l.names) l.above r → Judged l i s r
  unfolding judge_of
  judged_list h w r j =
      record {
        right = λ f e t rep.
            let d = found f e t rep h in
            rw (d.2, w)
            (j.right f (ap (λ (k : Lent). take k.roles k.names) e) (ap (λ (k : Lent). k.above) e) t rep i d.0 d.1 (ap (λ (k : Lent). state.rule_in k.rows k.ends i) e) [] refl (length s / 128) (true_whole s w).size);
      }
