-- `skip_sixteens` meets its contract: sixteen spaces in front are passed.
-- Assumes nothing.
use Rattle.std.proofs.Common.{rules, tests, ◌∙◌}
use Rattle.lexer.proofs.SpaceLaws.{spaces_passed}
use Rattle.lexer.proofs.words.skip_sixteens.Goals as goal

pub loop-front-preserved : goal.loop-front-preserved
loop-front-preserved c =
    let cut = c.in-Some.ensures.cases in
    spaces_passed 16 c.loop-front.left.now c.in-Some.front.now c.in-Some.rest.now cut.0 cut.1 (search (rules, tests)) ∙ c.loop-front.invariant
