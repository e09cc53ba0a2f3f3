use Rattle.grammar.proofs.responses.+slots.Given as goal

abbrev pub decreases-slots : goal.decreases-slots
decreases-slots l = l.k
