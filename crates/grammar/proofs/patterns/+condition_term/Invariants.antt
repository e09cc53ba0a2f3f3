use Rattle.std.proofs.Common.{length, ◌+◌, ◌*◌}
use Rattle.grammar.specs.Parser.{condition_of, term_of}
use Rattle.grammar.proofs.LevelLaws.{ReadsOn}
use Rattle.grammar.proofs.patterns.+condition_term.Given as goal

abbrev pub decreases-condition : goal.decreases-condition
decreases-condition l = length l.s.now * 2 + 1

abbrev pub decreases-term : goal.decreases-term
decreases-term l = length l.s.now * 2

-- what is read after an or is read of the condition
abbrev pub invariant-condition-loop-left : goal.invariant-condition-loop-left
invariant-condition-loop-left l = ReadsOn 1 condition_of l.s l.at

abbrev pub decreases-condition-loop-left : goal.decreases-condition-loop-left
decreases-condition-loop-left l = length l.at

-- what is read after a not is read of the term
abbrev pub invariant-term-loop-left : goal.invariant-term-loop-left
invariant-term-loop-left l = ReadsOn 0 term_of l.s l.at

abbrev pub decreases-term-loop-left : goal.decreases-term-loop-left
decreases-term-loop-left l = length l.at
