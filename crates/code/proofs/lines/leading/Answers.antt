-- `leading` meets its contract: the word in front is the first token, packed.
-- Assumes nothing.
use Rattle.std.proofs.Common.{ap, ◌∙◌}
use Rattle.names.specs.Name.{packed}
use Rattle.code.proofs.LineLaws.{front_word}
use Rattle.code.proofs.lines.leading.Goals as goal

pub returns : goal.returns
returns c = c.pack.ensures ∙ ap packed (c.first_word.ensures ∙ front_word _)
