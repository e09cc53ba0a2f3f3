-- `all_classed` meets its contract: the fold asks every byte.
-- Assumes nothing.
use Rattle.std.proofs.Common.{rules, tests, not, eqb, ◌∙◌, ◌&&◌, sym}
use Rattle.std.proofs.lemmas.Iterator.{YieldsList-from_slice}
use Rattle.std.proofs.lemmas.Iterator.Consumers.{fold_from_yields_List}
use Rattle.lexer.specs.Class.{class_of}
use Rattle.lexer.proofs.ClassedLaws.{classed_all}
use Rattle.lexer.proofs.FoldLaws.{folded_all}
use Rattle.lexer.proofs.classed.all_classed.Goals as goal

pub returns : goal.returns
returns c =
    fold_from_yields_List _ (λ a b. a && not (eqb (class_of b) 0)) _ _ c.fold.ensures.ran (YieldsList-from_slice c.args.text.now cc) (λ a x b q k. search (rules, tests))
    ∙ folded_all (λ b. not (eqb (class_of b) 0)) c.args.text.now
    ∙ sym (classed_all c.args.text.now)
