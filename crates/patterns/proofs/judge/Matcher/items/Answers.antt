-- `items` meets its contract: a law of ItemLaws for each way out, and one for each way on. What falls is the code left.
-- Assumes nothing.
use Rattle.std.proofs.Common.{sym, ◌∙◌, rules}
use Rattle.patterns.proofs.ItemLaws.{no_items, closed, starred, met_inside, item_on, item_off}
use Rattle.patterns.proofs.judge.Matcher.items.Goals as goal

pub loop-byte-init : goal.loop-byte-init
loop-byte-init c = λ r h. h

pub returns-then-byte-eq62 : goal.returns-then-byte-eq62
returns-then-byte-eq62 c = c.loop-byte.invariant _ (closed _ _ _ _ _ (search rules))

pub returns-then-byte-eq42 : goal.returns-then-byte-eq42
returns-then-byte-eq42 c = c.loop-byte.invariant _ (starred _ _ _ _ _ (search rules))

pub returns-in_default-met_item : goal.returns-in_default-met_item
returns-in_default-met_item c =
    c.loop-byte.invariant _ (item_off _ _ _ _ _ c.in-Some.field-0.now (search rules) (search rules) (search rules) (sym c.met_item.ensures ∙ c.in_default-met_item.is) _ c.items_end.ensures)

pub overflow_add-i : goal.overflow_add-i
overflow_add-i c = let h = met_inside _ _ _ _ _ _ _ (sym c.met_item.ensures ∙ c.in-Some-met_item.is) in search (rules, h.0)

pub loop-byte-smaller : goal.loop-byte-smaller
loop-byte-smaller c = let h = met_inside _ _ _ _ _ _ _ (sym c.met_item.ensures ∙ c.in-Some-met_item.is) in search (rules, h.1)

pub loop-byte-preserved : goal.loop-byte-preserved
loop-byte-preserved c = λ r h.
    c.loop-byte.invariant r (item_on _ _ _ _ _ c.in-Some.field-0.now (search rules) (search rules) (search rules) _ (sym c.met_item.ensures ∙ c.in-Some-met_item.is) r h)

pub returns : goal.returns
returns c = c.loop-byte.invariant _ (no_items _ _ _ _ _ _ (search rules))
