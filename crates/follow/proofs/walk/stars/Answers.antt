-- `stars` meets its contract: a law of StarLaws for each way out.
-- Assumes nothing.
use Rattle.follow.proofs.StarLaws.{some_star}
use Rattle.follow.proofs.walk.stars.Goals as goal

pub returns : goal.returns
returns c = some_star _ _ _ c.stars_end-end.ensures c.if-end-walk.false _ c.repeated.ensures
