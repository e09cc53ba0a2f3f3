-- `find` meets its contract: the search stops at the name's place.
-- Assumes nothing.
use Rattle.std.proofs.Common.{rules, eqb, tests}
use Rattle.std.proofs.lemmas.Iterator.{YieldsList-from_slice}
use Rattle.std.proofs.lemmas.Iterator.Search.{position_from_yields_List}
use Rattle.names.proofs.PlaceLaws.{place_first}
use Rattle.names.proofs.places.find.Goals as goal

pub returns : goal.returns
returns c =
    rw (place_first c.args.name c.args.names.now)
    (position_from_yields_List (λ n. eqb n c.args.name) _ _ _ c.position.ensures.ran (YieldsList-from_slice _ c.iter.ensures.rest) (λ x b q k. search (rules, tests)))
