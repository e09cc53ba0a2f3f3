-- `items_end` meets its contract: what stands after a byte of items is items too. What falls is the code left.
-- Assumes nothing.
use Rattle.std.proofs.Common.{rules}
use Rattle.patterns.proofs.ItemLaws.{end_none, end_here, end_more}
use Rattle.patterns.proofs.judge.Matcher.items_end.Goals as goal

pub loop-byte-init : goal.loop-byte-init
loop-byte-init c = λ r h. h

pub returns-then-byte-eq62 : goal.returns-then-byte-eq62
returns-then-byte-eq62 c = c.loop-byte.invariant _ (end_here _ _ (search rules))

pub loop-byte-preserved : goal.loop-byte-preserved
loop-byte-preserved c = λ r h. c.loop-byte.invariant r (end_more _ _ (search rules) r h)

pub returns : goal.returns
returns c = c.loop-byte.invariant _ (end_none _ _ (search rules))
