use Rattle.std.proofs.Common.{◌-◌, ◌+◌, ◌*◌, ◌≤◌, length}
use Rattle.follow.specs.Walked.{SequenceReadOn, SequenceRead, PastRead}
use Rattle.follow.specs.declared.walk.Walk.{Walk}
use Rattle.follow.proofs.PastLaws.{Widened}
use Rattle.follow.proofs.walk.Step.+base_factor_further_past_sequence.Given as goal

abbrev pub decreases-base : goal.decreases-base
decreases-base l = 5 * (length l.self.now.matcher.code.now - l.at) + 0

abbrev pub decreases-factor : goal.decreases-factor
decreases-factor l = 5 * (length l.self.now.matcher.code.now - l.at) + 1

abbrev pub decreases-further : goal.decreases-further
decreases-further l = 5 * (length l.self.now.matcher.code.now - l.walk.end) + 2

abbrev pub decreases-past : goal.decreases-past
decreases-past l = 5 * (length l.self.now.matcher.code.now - l.at) + 4

abbrev pub decreases-sequence : goal.decreases-sequence
decreases-sequence l = 5 * (length l.self.now.matcher.code.now - l.at) + 3

-- what further sequences make of what is found so far is what is found of the past
abbrev pub invariant-past-loop-other : goal.invariant-past-loop-other
invariant-past-loop-other l =
    (l.at ≤ l.walk.end)
    × ((r : Walk) → Widened l.self.positions l.self.matcher.above.now l.self.matcher.event.now l.self.matcher.code.now l.walk r
    → PastRead l.self.positions l.self.matcher.above.now l.self.matcher.event.now l.self.matcher.code.now l.at l.k r)

abbrev pub decreases-past-loop-other : goal.decreases-past-loop-other
decreases-past-loop-other l = length l.self.matcher.code.now - l.walk.end

-- what factors make of what is found so far is what is found of the sequence
abbrev pub invariant-sequence-loop-walk : goal.invariant-sequence-loop-walk
invariant-sequence-loop-walk l =
    (l.at ≤ l.walk.end)
    × ((r : Walk) → SequenceReadOn l.self.positions l.self.matcher.above.now l.self.matcher.event.now l.self.matcher.code.now l.walk r
    → SequenceRead l.self.positions l.self.matcher.above.now l.self.matcher.event.now l.self.matcher.code.now l.at l.k r)

abbrev pub decreases-sequence-loop-walk : goal.decreases-sequence-loop-walk
decreases-sequence-loop-walk l = length l.self.matcher.code.now - l.walk.end
