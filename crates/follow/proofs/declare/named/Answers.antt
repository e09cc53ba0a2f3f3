-- `named` meets its contract: the name is found among those held.
-- Assumes nothing.
use Rattle.std.proofs.Common.{◌∙◌, ap, is_some}
use Rattle.follow.proofs.StateLaws.{named-is}
use Rattle.follow.proofs.declare.named.Goals as goal

pub returns : goal.returns
returns c = c.is_some.ensures ∙ ap is_some (rw c.prefix.ensures at c.find.ensures) ∙ named-is _ _ _
