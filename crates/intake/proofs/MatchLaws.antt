-- A rule's past matches now by the state's numbers exactly where it does by the machine's.
-- Assumes nothing.
use Rattle.std.proofs.Common.{◌≡◌, refl, sym, ap, ap₂, ◌∙◌, Bool, false, ◌&&◌, ℕ, ◌<◌, ltb, get_or, lt-ltb}
use Rattle.common.specs.Limits.{max_rules}
use Rattle.grammar.specs.Names.{rule_names, past_names}
use Rattle.common.specs.All.{All}
use Rattle.common.proofs.AllLaws.{all_left}
use Rattle.common.specs.Sets.{shares}
use Rattle.positions.specs.Summaries.{ends_of}
use Rattle.follow.specs.Rules.{ends_in}
use Rattle.follow.specs.State.{matches_in, matches_at}
use Rattle.follow.specs.declared.state.Sheet.{Sheet}
use Rattle.follow.specs.declared.state.State.{State}
use Rattle.follow.proofs.MeaningMap.{summary-map}
use Rattle.follow.proofs.CappedLaws.{capped_small}
use Rattle.intake.specs.Names.{Rule}
use Rattle.intake.specs.Machine.{PositionMachine, PositionRule}
use Rattle.intake.specs.Represents.{name_at, RuleIs, PositionRuleIs, Represents}

module _ (s : Sheet) (k : ℕ) (r : Rule) (x : RuleIs s k r) where
  abbrev Id : ℕ → Type 0
  Id i = i < s.role_count

  past-ids : All Id (past_names x.tree.past)
  unfolding rule_names
  past-ids = all_left Id (past_names x.tree.past) _ x.ids

  pub ends_same : ends_in r.past ≡ get_or s.ends k 0
  ends_same =
      ap ends_in x.past
      ∙ ap ends_of (summary-map (name_at s) Id 0 (λ q. false) (λ q. false) (λ p h. refl) x.tree.past past-ids 1)
      ∙ sym x.keeps.ends

module _ (f : State) (t : PositionMachine) (rep : Represents f t) (k : ℕ) (x : PositionRule) (m : k < f.sheet.rule_count) (y : PositionRuleIs f k x) where
  pub matched_in_lem : shares x.positions (ends_in x.rule.past) ≡ matches_in f.sheet.ends f.positions k
  matched_in_lem = ap₂ shares (sym y.positions) (ends_same f.sheet k x.rule y.rule)

  pub matched-same : shares x.positions (ends_in x.rule.past) ≡ matches_at f k
  unfolding matches_at
  matched-same =
      matched_in_lem
      ∙ sym (ap (λ (b : Bool). b && matches_in f.sheet.ends f.positions k) (ap (ltb k) (capped_small max_rules f.sheet.rule_count rep.few) ∙ lt-ltb k f.sheet.rule_count m))
