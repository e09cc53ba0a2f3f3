use Rattle.std.proofs.Common.{length}
use Rattle.code.proofs.EventLaws.{Going}
use Rattle.code.proofs.events.read.Given as goal

abbrev pub invariant-loop-lexeme : goal.invariant-loop-lexeme
invariant-loop-lexeme l = Going l.names l.text l.roles l.len l.left l.unknown

abbrev pub decreases-loop-lexeme : goal.decreases-loop-lexeme
decreases-loop-lexeme l = length l.left
