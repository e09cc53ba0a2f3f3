-- `id_of` meets its contract: the place, where it is an id, or 127.
-- Assumes nothing.
use Rattle.code.proofs.IdLaws.{id_place, id_past, id_none}
use Rattle.code.proofs.ids.id_of.Goals as goal

pub returns-in-Some : goal.returns-in-Some
returns-in-Some c = id_place _ _ _ (rw (c.in-Some.is, c.pack.ensures) at c.find.ensures) c.if-place-lt-IDS.true

pub returns-in_default : goal.returns-in_default
returns-in_default c = id_past _ _ _ (rw (c.in-Some.is, c.pack.ensures) at c.find.ensures) c.if-place-lt-IDS.false

pub returns-in_default-2 : goal.returns-in_default-2
returns-in_default-2 c = id_none _ _ (rw (c.in_default.is, c.pack.ensures) at c.find.ensures)
