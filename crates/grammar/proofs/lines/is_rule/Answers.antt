-- `is_rule` answers whether the parser of rule lines reads the whole text, at the depth that its length gives.
use Rattle.std.proofs.Common.{arith}
use Rattle.grammar.proofs.AnswerLaws.{whole_is}
use Rattle.grammar.proofs.lines.is_rule.Goals as goal

pub returns : goal.returns
returns c = whole_is _ _ _ _ (c.rule.ensures.answers _ (omega arith)) c.is_some_and.ensures
