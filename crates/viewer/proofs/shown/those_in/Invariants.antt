-- The loop of `those_in`: the rules before i are listed.
use Rattle.columns.specs.Writing.{Writes}
use Rattle.viewer.specs.Lines.{listed}
use Rattle.viewer.proofs.shown.those_in.Given as goal

abbrev pub invariant-loop-i : goal.invariant-loop-i
invariant-loop-i l = Writes l.at (listed l.names l.set l.i) l.initial.out l.out l.next
