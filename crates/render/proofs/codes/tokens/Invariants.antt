use Rattle.render.specs.Decoded.{name_in}
use Rattle.render.proofs.CodeLaws.{Going}
use Rattle.render.proofs.codes.tokens.Given as goal

abbrev pub invariant-loop-b : goal.invariant-loop-b
invariant-loop-b l = Going (name_in l.names) l.code l.at l.initial.out l.out l.next l.after l.b-index
