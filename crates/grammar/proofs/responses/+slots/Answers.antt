-- `slots` answers as the parser of at most k slots does. What falls is k.
use Rattle.grammar.proofs.LevelResponses.{slots_full, slots_close, slots_more, slots_bad}
use Rattle.grammar.proofs.responses.+slots.Goals as goal

pub returns-in-Some : goal.returns-in-Some
returns-in-Some t c = slots_close _ _ _ c.in-Some.ensures

pub returns-then-k-eq0 : goal.returns-then-k-eq0
returns-then-k-eq0 t c = slots_full _ _ c.if-k-eq0.true c.in_default.ensures

pub returns-in_err-left : goal.returns-in_err-left
returns-in_err-left t c = rw c.from_residual.ensures (slots_bad _ _ c.if-k-eq0.false c.in_default.ensures c.in_err-left.ensures)

pub returns : goal.returns
returns t c = slots_more _ _ _ _ c.if-k-eq0.false c.in_default.ensures c.in_ok-left.ensures c.slots.ensures
