use Rattle.std.proofs.Common.{ℕ, ◌-◌, length}
use Rattle.follow.specs.Walked.{StarsEnd}
use Rattle.follow.proofs.walk.stars_end.Given as goal

-- the stars that are left end where those from the start do
abbrev pub invariant-loop-end : goal.invariant-loop-end
invariant-loop-end l = (r : ℕ) → StarsEnd l.code l.end r → StarsEnd l.code l.at r

abbrev pub decreases-loop-end : goal.decreases-loop-end
decreases-loop-end l = length l.code - l.end
