-- An event is committed: the state represents the machine whose positions have moved on.
-- Assumes nothing.
use Rattle.std.proofs.Common.{◌≡◌, sym, ap, ◌∙◌, subst, List, [], ◌∷◌, map, ℕ, zero, suc, ◌≤◌, ◌<◌, arith, get_or}
use Rattle.common.specs.Limits.{max_rules}
use Rattle.lexer.specs.Words.{same}
use Rattle.grammar.specs.Trees as trees
use Rattle.grammar.specs.Rename.{map_pattern}
use Rattle.grammar.specs.Names.{rule_names, past_names, pattern_names}
use Rattle.common.specs.All.{All}
use Rattle.common.proofs.AllLaws.{all_left}
use Rattle.patterns.specs.Meets.{meets, order_of}
use Rattle.patterns.specs.Judged.{order_by}
use Rattle.patterns.proofs.TableNames.{meets-same}
use Rattle.positions.specs.Summaries.{summary, step_of}
use Rattle.follow.specs.Meaning.{past_meaning}
use Rattle.follow.specs.Rows.{code_of}
use Rattle.follow.specs.Rules.{RuleStepped}
use Rattle.follow.specs.State.{rules_held, rule_at, Committed}
use Rattle.follow.specs.declared.state.Sheet.{Sheet}
use Rattle.follow.specs.declared.state.State.{State}
use Rattle.follow.proofs.MeaningMap.{summary-map}
use Rattle.follow.proofs.CappedLaws.{capped_small}
use Rattle.intake.specs.Names.{Name, Event, Roles as NamedRoles, Rule}
use Rattle.intake.specs.Machine.{PositionMachine, PositionRule, step_number, move_on, with_event}
use Rattle.intake.specs.Represents.{name_at, RuleIs, PositionRuleIs, Rules, rules-none, rules-more, Represents}
use Rattle.intake.proofs.Numbers.{step-within}
use Rattle.intake.proofs.RuleSizes.{rule-small}

module _ (f : State) (t : PositionMachine) (rep : Represents f t) (e : List ℕ) (es : All (λ i. i < f.sheet.role_count) e) where
  -- what the code judges of ids is what the machine judges of names
  judged : (p : trees.Pattern ℕ) → All (λ i. i < f.sheet.role_count) (pattern_names p)
      → meets (order_of same t.roles) (map (name_at f.sheet) e) (map_pattern (name_at f.sheet) p) ≡ meets (order_by f.sheet.above) e p
  judged p h =
      ap (λ (rs : NamedRoles). meets (order_of same rs) (map (name_at f.sheet) e) (map_pattern (name_at f.sheet) p)) rep.roles
      ∙ meets-same same (name_at f.sheet) f.sheet.parents f.sheet.above f.sheet.role_count rep.naming.few rep.naming.ordered rep.naming.gathered (λ i j h k. rep.naming.distinct i j h k) e es p h

  -- the positions after one event more, from any positions m
  pub step_same : (i : ℕ) (r : Rule) → RuleIs f.sheet i r → (m w : ℕ) → RuleStepped (code_of (rule_at f.sheet i).row) m e f.sheet.above w → w ≡ step_number t.roles r.past m (map (name_at f.sheet) e)
  unfolding step_number rule_names
  step_same i r x m w h =
      let names : All (λ j. j < f.sheet.role_count) (past_names x.tree.past) = all_left (λ j. j < f.sheet.role_count) (past_names x.tree.past) _ x.ids in
      h.right x.tree x.keeps.spelled
      ∙ ap (step_of m)
      (sym (summary-map (name_at f.sheet) (λ j. j < f.sheet.role_count) m (meets (order_by f.sheet.above) e) (meets (order_of same t.roles) (map (name_at f.sheet) e)) judged x.tree.past names 1)
      ∙ ap (λ (p : trees.Past Name). summary m (meets (order_of same t.roles) (map (name_at f.sheet) e)) (past_meaning p) 1) (sym x.past))

module _ (f g : State) (t : PositionMachine) (rep : Represents f t) (e : List ℕ) (es : All (λ i. i < f.sheet.role_count) e) (c : Committed f e g) where
  -- the event by names
  abbrev named : Event
  named = map (name_at f.sheet) e

  stepped : (i : ℕ) (x : PositionRule) → i < f.sheet.rule_count → PositionRuleIs f i x → get_or g.positions i 0 ≡ step_number t.roles x.rule.past x.positions named
  stepped i x k y =
      let held : i < rules_held f.sheet = rw (capped_small max_rules f.sheet.rule_count rep.few) k in
      step_same f t rep e es i x.rule y.rule (get_or f.positions i 0) (get_or g.positions i 0) (c.positions i held)
      ∙ ap (λ (m : ℕ). step_number t.roles x.rule.past m named) y.positions

  rule-kept : (i : ℕ) (x : PositionRule) → i < f.sheet.rule_count → PositionRuleIs f i x → PositionRuleIs g i (move_on t.roles named x)
  rule-kept i x k y =
      record {
        rule = rw c.sheet y.rule;
        positions = stepped i x k y;
        within = step-within t.roles x.rule.past x.positions named (rule-small f.sheet i x.rule y.rule);
      }

  rules-kept : (k : ℕ) (l : List PositionRule) → k ≤ f.sheet.rule_count → Rules f k l → Rules g k (map (move_on t.roles named) l)
  rules-kept zero [] h rules-none = rules-none
  rules-kept (suc k) (x ∷ l) h (rules-more y ys) = rules-more (rule-kept k x h y) (rules-kept k l (omega arith) ys)
  rules-kept zero (x ∷ l) h x5 = elim x5 [ ]
  rules-kept (suc k) [] h x4 = elim x4 [ ]

  pub kept_commit : Represents g (with_event t named)
  kept_commit =
      record {
        naming = rw c.sheet rep.naming;
        few = rw c.sheet rep.few;
        roles = rw c.sheet rep.roles;
        rules =
            subst (λ (s : Sheet). Rules g s.rule_count (map (move_on t.roles named) t.rules)) (sym c.sheet)
            (rules-kept f.sheet.rule_count t.rules (omega arith) rep.rules);
      }
