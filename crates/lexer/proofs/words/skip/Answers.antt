-- `skip` meets its contract: where no space is in front, all is left.
-- Assumes nothing.
use Rattle.std.proofs.Common.{◌∙◌}
use Rattle.lexer.proofs.SpaceLaws.{nothing_passed, none_passed}
use Rattle.lexer.proofs.words.skip.Goals as goal

pub returns-in_default : goal.returns-in_default
returns-in_default c = nothing_passed c.args.s.now c.in_default.ensures.cases

pub returns : goal.returns
returns c = none_passed c.args.s.now _ _ c.in-Some.ensures.cases.0 (λ e. c.if-class_of-eq1.false (c.class_of.ensures ∙ e))
