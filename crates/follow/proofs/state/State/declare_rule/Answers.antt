-- `declare_rule` meets its contract: a law of StateLaws for each answer.
-- Assumes nothing.
use Rattle.std.proofs.Common.{rules, ◌≡◌, sym, ◌∙◌, length}
use Rattle.common.proofs.Bools.{held_from, held-not}
use Rattle.follow.proofs.StateLaws.{rule_5, rule_6, rule_7, rule_8, rule_0}
use Rattle.follow.proofs.RowLaws.{row_put}
use Rattle.follow.proofs.state.State.declare_rule.Goals as goal

pub returns-then-is_taken : goal.returns-then-is_taken
returns-then-is_taken c = record { rule = _; compiled = c.compiled-rule.ensures; is = rule_5 _ _ _ (sym c.if-is_taken.true ∙ c.is_taken.ensures) }

pub returns-then-line : goal.returns-then-line
returns-then-line c = record { rule = _; compiled = c.compiled-rule.ensures; is = rule_6 _ _ _ (sym c.if-is_taken.false ∙ c.is_taken.ensures) c.if-line.true }

pub returns-then-not-line : goal.returns-then-not-line
returns-then-not-line c =
    record { rule = _; compiled = c.compiled-rule.ensures; is = rule_7 _ _ _ (sym c.if-is_taken.false ∙ c.is_taken.ensures) c.if-line.false (held-not _ c.if-not-line.true) }

pub returns-then-at-ge-MAX_RULES : goal.returns-then-at-ge-MAX_RULES
returns-then-at-ge-MAX_RULES c =
    record {
      rule = _;
      compiled = c.compiled-rule.ensures;
      is = rule_8 _ _ _ (sym c.if-is_taken.false ∙ c.is_taken.ensures) c.if-line.false (held_from _ c.if-not-line.false) c.if-at-ge-MAX_RULES.true;
    }

pub returns : goal.returns
returns c =
    let z : length c.args.self.now.sheet.rows ≡ 4096 = search rules in
    record {
      rule = _;
      compiled = c.compiled-rule.ensures;
      is =
          rule_0 _ _ _ (sym c.if-is_taken.false ∙ c.is_taken.ensures) c.if-line.false (held_from _ c.if-not-line.false) c.if-at-ge-MAX_RULES.false _
          (row_put _ _ _ _ z c.compiled-rule.ensures.whole c.if-at-ge-MAX_RULES.false c.copy_from_slice.ensures.after);
    }
