-- `blank` meets its contract: the fold asks every byte.
-- Assumes nothing.
use Rattle.std.proofs.Common.{rules, tests, ◌∙◌, ◌&&◌}
use Rattle.std.proofs.lemmas.Iterator.{YieldsList-from_slice}
use Rattle.std.proofs.lemmas.Iterator.Consumers.{fold_from_yields_List}
use Rattle.lexer.specs.Class.{spacey}
use Rattle.lexer.proofs.FoldLaws.{folded_all}
use Rattle.lexer.proofs.words.blank.Goals as goal

pub returns : goal.returns
unfolding spacey
returns c =
    fold_from_yields_List _ (λ a b. a && spacey b) _ _ c.fold.ensures.ran (YieldsList-from_slice c.args.bytes.now cc) (λ a x b q k. search (rules, tests))
    ∙ folded_all spacey c.args.bytes.now
