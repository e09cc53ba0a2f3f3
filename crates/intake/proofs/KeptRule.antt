-- One rule more: the state with the rule added represents the machine with it added.
-- Assumes nothing.
use Rattle.std.proofs.Common.{◌≡◌, sym, ◌∙◌, subst, List, [], ◌∷◌, ℕ, zero, suc, ◌≤◌, ◌<◌, add-one, arith, length, set, get_or, get_or-set_same, get_or-set_other}
use Rattle.common.specs.Limits.{max_patterns, max_rules}
use Rattle.grammar.specs.Rename.{map_past, map_pattern, map_response}
use Rattle.grammar.specs.Names.{rule_names}
use Rattle.grammar.specs.Size.{size_past}
use Rattle.names.specs.Name.{packed}
use Rattle.common.specs.All.{All}
use Rattle.follow.specs.Rules.{Tree, Short, Keeps}
use Rattle.follow.specs.State.{add_rule, join_rule}
use Rattle.follow.specs.declared.rules.Rule as kept
use Rattle.follow.specs.declared.state.Sheet.{Sheet}
use Rattle.follow.specs.declared.state.State.{State}
use Rattle.follow.proofs.StateLaws.{rule_new, rule_old}
use Rattle.intake.specs.Names.{Rule}
use Rattle.intake.specs.Machine.{PositionMachine, PositionRule, start_number, with_rule}
use Rattle.intake.specs.Represents.{name_at, NameWord, Sized, Naming, Said, RuleIs, Rules, rules-none, rules-more, Represents}
use Rattle.intake.proofs.Numbers.{start-within}

module _ (f : State) (z : Sized f) (t : PositionMachine) (rep : Represents f t) (rule : kept.Rule) (tree : Tree) (keeps : Keeps rule tree)
    (ids : All (λ k. k < f.sheet.role_count) (rule_names tree.past tree.trigger tree.response)) (short : Short tree.response) (small : size_past tree.past ≤ max_patterns)
    (r : Rule) (name : ℕ) (named : name ≡ packed r.name) (word : NameWord r.name) (past : r.past ≡ map_past (name_at f.sheet) tree.past)
    (trigger : r.trigger ≡ map_pattern (name_at f.sheet) tree.trigger) (response : r.response ≡ map_response (name_at f.sheet) tree.response) (said : Said r)
    (whole : length rule.row ≡ 128) (room : f.sheet.rule_count < max_rules) where
  abbrev s : Sheet
  s = f.sheet

  abbrev after : Sheet
  after = add_rule s name rule

  new_name : get_or after.rule_names s.rule_count 0 ≡ name
  new_name = get_or-set_same s.rule_names s.rule_count name 0 (omega (arith, z.rule-names))

  old_name : (i : ℕ) → i < s.rule_count → get_or after.rule_names i 0 ≡ get_or s.rule_names i 0
  old_name i k = get_or-set_other s.rule_names s.rule_count i name 0 (λ e. absurd (omega arith))

  new_positions : get_or (set f.positions s.rule_count 1) s.rule_count 0 ≡ 1
  new_positions = get_or-set_same f.positions s.rule_count 1 0 (omega (arith, z.positions))

  old_positions : (i : ℕ) → i < s.rule_count → get_or (set f.positions s.rule_count 1) i 0 ≡ get_or f.positions i 0
  old_positions i k = get_or-set_other f.positions s.rule_count i 1 0 (λ e. absurd (omega arith))

  first : RuleIs after s.rule_count r
  first =
      record {
        tree = tree;
        keeps = subst (λ (x : kept.Rule). Keeps x tree) (sym (rule_new s name rule z.ends z.rows whole room)) keeps;
        ids = ids;
        short = short;
        small = small;
        named = new_name ∙ named;
        word = word;
        past = past;
        trigger = trigger;
        response = response;
        said = said;
      }

  rule-kept : (i : ℕ) (q : Rule) → i < s.rule_count → RuleIs s i q → RuleIs after i q
  rule-kept i q k x =
      record {
        tree = x.tree;
        keeps = subst (λ (y : kept.Rule). Keeps y x.tree) (sym (rule_old s name rule z.ends z.rows whole room i k)) x.keeps;
        ids = x.ids;
        short = x.short;
        small = x.small;
        named = old_name i k ∙ x.named;
        word = x.word;
        past = x.past;
        trigger = x.trigger;
        response = x.response;
        said = x.said;
      }

  rules-kept : (k : ℕ) (l : List PositionRule) → k ≤ s.rule_count → Rules f k l → Rules (join_rule f name rule) k l
  rules-kept zero [] h rules-none = rules-none
  rules-kept (suc k) (q ∷ l) h (rules-more x xs) =
      rules-more (record { rule = rule-kept k q.rule h x.rule; positions = old_positions k h ∙ x.positions; within = x.within }) (rules-kept k l (omega arith) xs)
  rules-kept zero (q ∷ l) h x4 = elim x4 [ ]
  rules-kept (suc k) [] h x4 = elim x4 [ ]

  naming : Naming after
  naming =
      let n = rep.naming in
      record { few = n.few; there = n.there; some = n.some; packed = n.packed; word = n.word; distinct = n.distinct; ordered = n.ordered; gathered = n.gathered }

  pub kept_rule : Represents (join_rule f name rule) (with_rule t r)
  kept_rule =
      record {
        naming = naming;
        few = omega arith;
        roles = rep.roles;
        rules =
            subst (λ (k : ℕ). Rules (join_rule f name rule) k (record { rule = r; positions = start_number } ∷ t.rules)) (sym (add-one s.rule_count))
            (rules-more
            (record { rule = first; positions = new_positions; within = start-within (size_past r.past) })
            (rules-kept s.rule_count t.rules (omega arith) rep.rules));
      }
