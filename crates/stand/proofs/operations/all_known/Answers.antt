-- `all_known` looks at the kinds one by one.
-- Assumes nothing.
use Rattle.std.proofs.Common.{rules, tests, is_ok, ◌∙◌, sym}
use Rattle.std.proofs.lemmas.Iterator.{YieldsList-from_slice}
use Rattle.std.proofs.lemmas.Iterator.Search.{all_from_yields_List}
use Rattle.stand.specs.Kinds.{named_by}
use Rattle.stand.proofs.KindLaws.{known_all}
use Rattle.stand.proofs.operations.all_known.Goals as goal

pub returns : goal.returns
returns c =
    all_from_yields_List (λ k. is_ok (named_by k)) _ _ c.all.result c.all.ensures.ran (YieldsList-from_slice c.args.kinds.now cc) (λ x b q k. search (rules, tests))
    ∙ sym (known_all c.args.kinds.now)
