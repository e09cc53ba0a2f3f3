-- `word` meets its contract: the columns before the first space are counted, and written.
-- Assumes nothing.
use Rattle.std.proofs.Common.{rules, tests}
use Rattle.std.proofs.lemmas.Iterator.{YieldsList-from_slice}
use Rattle.std.proofs.lemmas.Iterator.Consumers.{count_from_yields_List}
use Rattle.std.proofs.lemmas.Iterator.Search.{YieldsList-from_take_while}
use Rattle.lexer.proofs.RunLaws.{counted}
use Rattle.names.specs.Unpacked.{not_space}
use Rattle.columns.proofs.WriteLaws.{writes_same}
use Rattle.columns.proofs.WordLaws.{name-run}
use Rattle.columns.proofs.texts.word.Goals as goal

pub returns : goal.returns
unfolding not_space
returns c =
    let s = c.to_be_bytes-columns.result in
    let n = counted not_space s _ (count_from_yields_List c.take_while.result _ c.count-len.ensures.ran (YieldsList-from_take_while _ not_space (YieldsList-from_slice s cc) c.take_while.ensures.closure c.take_while.ensures.done (λ x b q k. search (rules, tests)))) in
    writes_same (rw c.to_be_bytes-columns.ensures (name-run c.args.name _ (rw c.to_be_bytes-columns.ensures at n))) c.text.ensures
