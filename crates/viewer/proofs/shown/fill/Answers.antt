use Rattle.viewer.proofs.shown.fill.Goals as goal

pub returns : goal.returns
returns c = rw c.told.ensures at c.parts.ensures
