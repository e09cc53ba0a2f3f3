use Rattle.std.proofs.Common.{length, ◌+◌, ◌*◌}
use Rattle.grammar.specs.Parser.{past_of, sequence_of}
use Rattle.grammar.proofs.LevelLaws.{ReadsOn}
use Rattle.grammar.proofs.pasts.+base_factor_past_sequence.Given as goal

abbrev pub decreases-base : goal.decreases-base
decreases-base l = length l.s.now * 4 + 0

abbrev pub decreases-factor : goal.decreases-factor
decreases-factor l = length l.s.now * 4 + 1

abbrev pub decreases-past : goal.decreases-past
decreases-past l = length l.s.now * 4 + 3

abbrev pub decreases-sequence : goal.decreases-sequence
decreases-sequence l = length l.s.now * 4 + 2

-- what is read after a + is read of the past
abbrev pub invariant-past-loop-left : goal.invariant-past-loop-left
invariant-past-loop-left l = ReadsOn 6 past_of l.s l.at

abbrev pub decreases-past-loop-left : goal.decreases-past-loop-left
decreases-past-loop-left l = length l.at

-- what is read from a further factor on is read of the sequence
abbrev pub invariant-sequence-loop-left : goal.invariant-sequence-loop-left
invariant-sequence-loop-left l = ReadsOn 5 sequence_of l.s l.at

abbrev pub decreases-sequence-loop-left : goal.decreases-sequence-loop-left
decreases-sequence-loop-left l = length l.at
