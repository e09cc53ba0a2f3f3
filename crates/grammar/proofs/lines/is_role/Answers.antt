-- `is_role` answers whether the parser of role lines reads the whole text.
use Rattle.grammar.proofs.AnswerLaws.{whole_is}
use Rattle.grammar.proofs.lines.is_role.Goals as goal

pub returns : goal.returns
returns c = whole_is _ _ _ _ c.role.ensures.answers c.is_some_and.ensures
