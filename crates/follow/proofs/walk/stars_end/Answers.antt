-- `stars_end` meets its contract: a law of StarLaws for each way through its loop.
-- Assumes nothing.
use Rattle.std.proofs.Common.{arith}
use Rattle.follow.proofs.StarLaws.{stands_within, stands_byte, stands_not, end_stars, more_stars}
use Rattle.follow.proofs.walk.stars_end.Goals as goal

pub loop-end-init : goal.loop-end-init
loop-end-init c = λ r h. h

pub overflow_add-end : goal.overflow_add-end
overflow_add-end c = let h = stands_within _ _ _ _ c.stands.ensures c.loop-end-test.true in omega arith

pub loop-end-smaller : goal.loop-end-smaller
loop-end-smaller c = let h = stands_within _ _ _ _ c.stands.ensures c.loop-end-test.true in omega arith

pub loop-end-preserved : goal.loop-end-preserved
loop-end-preserved c = λ r h. c.loop-end.invariant r (more_stars _ _ (stands_byte _ _ _ _ c.stands.ensures c.loop-end-test.true) r h)

pub returns : goal.returns
returns c = c.loop-end.invariant _ (end_stars _ _ (stands_not _ _ _ _ c.stands.ensures c.loop-end-test.false (omega arith)))
