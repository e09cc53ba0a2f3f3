use Rattle.grammar.proofs.LeafLaws.{ends-is}
use Rattle.grammar.proofs.leaves.ends.Goals as goal

pub returns : goal.returns
returns c = ends-is _ _ _ c.next.ensures c.is_none.ensures
