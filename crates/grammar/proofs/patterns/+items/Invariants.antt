use Rattle.grammar.proofs.patterns.+items.Given as goal

abbrev pub decreases-items : goal.decreases-items
decreases-items l = l.k
