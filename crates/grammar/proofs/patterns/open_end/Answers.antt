-- `open_end` answers as the parser of * and > does.
use Rattle.grammar.proofs.LevelPatterns.{open_yes, open_no}
use Rattle.grammar.proofs.patterns.open_end.Goals as goal

pub returns-in_err-close : goal.returns-in_err-close
returns-in_err-close c = rw c.from_residual.ensures (open_no _ c.in_err-close.ensures)

pub returns : goal.returns
returns c = open_yes _ _ _ c.in_ok-close.ensures c.mark_at-2.ensures
