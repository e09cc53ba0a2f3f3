-- `simple` answers as its parser does: items after <, or the word any.
use Rattle.lexer.specs.Words.{kind_number}
use Rattle.grammar.proofs.LevelPatterns.{simple-items, simple_any}
use Rattle.grammar.proofs.patterns.simple.Goals as goal

pub returns-in-Some : goal.returns-in-Some
returns-in-Some c = simple-items _ _ _ c.in-Some.ensures c.items.ensures

pub returns-in-None : goal.returns-in-None
unfolding kind_number
returns-in-None c = simple_any _ _ c.in-None.ensures c.word_at.ensures
