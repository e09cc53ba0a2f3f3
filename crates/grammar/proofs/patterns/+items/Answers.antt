-- `items` answers as the parser of at most k items does. What falls is k.
use Rattle.grammar.proofs.LevelPatterns.{items-full, items-close, items_more, items_open}
use Rattle.grammar.proofs.patterns.+items.Goals as goal

pub returns-in-Some : goal.returns-in-Some
returns-in-Some t c = items-close _ _ _ c.in-Some.ensures

pub returns-then-k-eq0 : goal.returns-then-k-eq0
returns-then-k-eq0 t c = items-full _ _ _ c.if-k-eq0.true c.in_default.ensures c.open_end.ensures

pub returns-in-Some-item : goal.returns-in-Some-item
returns-in-Some-item t c = items_more _ _ _ _ c.if-k-eq0.false c.in_default.ensures c.in-Some-item.ensures c.items.ensures

pub returns-in-None : goal.returns-in-None
returns-in-None t c = items_open _ _ _ c.if-k-eq0.false c.in_default.ensures c.in-None.ensures c.open_end-in-None.ensures
