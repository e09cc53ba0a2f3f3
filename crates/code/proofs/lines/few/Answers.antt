-- `few` meets its contract: the count over the body's code, held to the limit.
-- Assumes nothing.
use Rattle.std.proofs.Common.{refl, le-leb}
use Rattle.std.proofs.lemmas.Bool.{lt-leb}
use Rattle.code.specs.Lines.{few_in}
use Rattle.code.proofs.lines.few.Goals as goal

pub returns-in-Some : goal.returns-in-Some
unfolding few_in
returns-in-Some c = let h = rw c.in-Some.is at c.bytes.ensures in rw (le-leb _ _ h.0, c.patterns.ensures, h.1) refl

pub returns-in-None : goal.returns-in-None
unfolding few_in
returns-in-None c = let h = rw c.in-None.is at c.bytes.ensures in rw (lt-leb _ _ h) refl
