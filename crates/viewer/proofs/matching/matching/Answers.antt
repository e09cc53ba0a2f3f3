use Rattle.std.proofs.Common.{◌∙◌, refl}
use Rattle.viewer.proofs.MatchLaws.{held-min, onward, finish}
use Rattle.viewer.proofs.Telling.{matching-told}
use Rattle.viewer.proofs.matching.matching.Goals as goal

pub loop-rule-preserved : goal.loop-rule-preserved
loop-rule-preserved c =
    onward _ _ _ _ _ _ c.loop-rule.invariant c.loop-rule-test.true c.matches-now.ensures (rw (c.only_if-set.ensures, c.single.ensures) refl)

pub returns : goal.returns
returns c = matching-told _ _ (finish _ _ _ c.loop-rule.rule (c.min-rule-end.ensures ∙ held-min _) c.loop-rule.invariant c.loop-rule-test.false)
