use Rattle.std.proofs.Common.{rules, tests}
use Rattle.std.proofs.lemmas.Iterator.{YieldsList-from_slice}
use Rattle.std.proofs.lemmas.Iterator.Consumers.{count_from_yields_List}
use Rattle.std.proofs.lemmas.Iterator.Search.{YieldsList-from_take_while}
use Rattle.lexer.specs.Class.{spacey}
use Rattle.lexer.proofs.RunLaws.{counted, after_part}
use Rattle.lexer.proofs.words.skip_each.Goals as goal

-- the spaces that the text begins with are counted
pub returns : goal.returns
unfolding spacey
returns c =
    let s = c.args.s.now in
    let n = counted spacey s _ (count_from_yields_List c.take_while.result _ c.count-n.ensures.ran (YieldsList-from_take_while _ spacey (YieldsList-from_slice s cc) c.take_while.ensures.closure c.take_while.ensures.done (λ x b q k. search (rules, tests)))) in
    rw n (after_part spacey s)
