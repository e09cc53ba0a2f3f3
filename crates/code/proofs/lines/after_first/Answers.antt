-- `after_first` meets its contract: each answer of `next` leaves what the lexeme leaves.
-- Assumes nothing.
use Rattle.code.proofs.LineLaws.{after_first_is}
use Rattle.code.proofs.lines.after_first.Goals as goal

pub returns-in-Some : goal.returns-in-Some
returns-in-Some c = after_first_is (rw c.in-Some.is at c.next.ensures)

pub returns-in-None : goal.returns-in-None
returns-in-None c = after_first_is (rw c.in-None.is at c.next.ensures)
