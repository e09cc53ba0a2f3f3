-- The loop of `matching`: the rules before this one are in the set where their pasts match.
use Rattle.follow.specs.State.{matches_in}
use Rattle.viewer.proofs.MatchLaws.{Going}
use Rattle.viewer.proofs.matching.matching.Given as goal

abbrev pub invariant-loop-rule : goal.invariant-loop-rule
invariant-loop-rule l = Going (matches_in l.state.sheet.ends l.state.positions) l.rule-end l.set l.rule
