use Rattle.std.proofs.Common.{rules, tests, ◌∙◌, ap, take, ℕ}
use Rattle.std.proofs.lemmas.Iterator.{YieldsList-from_slice}
use Rattle.std.proofs.lemmas.Iterator.Consumers.{count_from_yields_List}
use Rattle.std.proofs.lemmas.Iterator.Search.{YieldsList-from_take_while}
use Rattle.lexer.specs.Class.{wordy}
use Rattle.lexer.proofs.RunLaws.{counted, run_take}
use Rattle.lexer.proofs.words.word.Goals as goal

-- the bytes of words that the text begins with are counted
pub returns : goal.returns
returns c =
    let s = c.args.s.now in
    let n = counted wordy s _ (count_from_yields_List c.take_while.result _ c.count-n.ensures.ran (YieldsList-from_take_while _ wordy (YieldsList-from_slice s cc) c.take_while.ensures.closure c.take_while.ensures.done (λ x b q k. search (rules, tests)))) in
    ap (λ (m : ℕ). take m s) n ∙ run_take wordy s
