-- `words` meets its contract: the first name, and the others with a space before each.
-- Assumes nothing.
use Rattle.std.proofs.Common.{rules}
use Rattle.columns.proofs.WordLaws.{writes_spaced, spaced-none}
use Rattle.columns.proofs.texts.words.Goals as goal

pub returns-in_default : goal.returns-in_default
returns-in_default c = spaced-none c.args.names.now _ _ (search rules)

pub returns : goal.returns
returns c = rw c.in-Some.ensures.cases.0 (writes_spaced _ _ c.word-next.ensures c.more.ensures)
