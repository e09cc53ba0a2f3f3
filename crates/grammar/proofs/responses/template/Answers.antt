-- `template` answers as its parser does: slots after <.
use Rattle.grammar.proofs.LevelResponses.{template-yes, template-no}
use Rattle.grammar.proofs.responses.template.Goals as goal

pub returns-in_err-left : goal.returns-in_err-left
returns-in_err-left c = rw c.from_residual.ensures (template-no _ c.in_err-left.ensures)

pub returns : goal.returns
returns c = template-yes _ _ _ c.in_ok-left.ensures c.slots.ensures
