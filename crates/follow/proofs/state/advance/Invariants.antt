use Rattle.follow.proofs.AdvanceLaws.{Going}
use Rattle.follow.proofs.state.advance.Given as goal

abbrev pub invariant-loop-i : goal.invariant-loop-i
invariant-loop-i l = Going l.rows l.event l.above l.initial.positions l.count l.positions l.i
