-- `slot` answers as its parser does: a place after #, or a name.
use Rattle.lexer.specs.Words.{kind_number}
use Rattle.grammar.proofs.LevelResponses.{slot_place, slot_named}
use Rattle.grammar.proofs.responses.slot.Goals as goal

pub returns-in-Some : goal.returns-in-Some
returns-in-Some c = slot_place _ _ _ c.in-Some.ensures c.place_at.ensures

pub returns-in-None : goal.returns-in-None
unfolding kind_number
returns-in-None c = slot_named _ _ c.in-None.ensures c.word_at.ensures
