use Rattle.chain.specs.Duties.{seen, cut, rules_held}
use Rattle.chain.proofs.FindLaws.{Sought}
use Rattle.chain.proofs.views.View.find.Given as goal

abbrev pub invariant-loop-rule : goal.invariant-loop-rule
invariant-loop-rule l = Sought (cut (seen l.self) l.left) l.looked (rules_held (cut (seen l.self) l.left)) l.rule
