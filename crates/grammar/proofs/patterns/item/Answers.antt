-- `item` answers as the parser of an item does: after a +, or with none.
use Rattle.lexer.specs.Words.{kind_number}
use Rattle.grammar.proofs.LevelPatterns.{item-either}
use Rattle.grammar.proofs.patterns.item.Goals as goal

pub returns : goal.returns
unfolding kind_number
returns c = item-either _ _ _ _ c.mark_at.ensures c.unwrap_or-name.ensures c.word_at.ensures
