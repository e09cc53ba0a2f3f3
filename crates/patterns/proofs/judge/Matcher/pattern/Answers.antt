-- `pattern` meets its contract: a law of PatternLaws for each way out, and else it is read as a term is.
-- Assumes nothing.
use Rattle.std.proofs.Common.{rules}
use Rattle.patterns.proofs.PatternLaws.{no-pattern, any_pattern, list-pattern}
use Rattle.patterns.proofs.judge.Matcher.pattern.Goals as goal

pub returns-in-None : goal.returns-in-None
returns-in-None c = no-pattern _ _ _ _ _ (search rules)

pub returns-in-Some-eq97 : goal.returns-in-Some-eq97
returns-in-Some-eq97 c = any_pattern _ _ _ _ (search rules)

pub returns-in-Some-eq60 : goal.returns-in-Some-eq60
returns-in-Some-eq60 c = list-pattern _ _ _ _ (search rules) _ c.items.ensures
