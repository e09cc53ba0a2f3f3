use Rattle.std.proofs.Common.{ℕ, ◌-◌, length}
use Rattle.patterns.specs.Judged.{ItemsEnd}
use Rattle.patterns.proofs.judge.Matcher.items_end.Given as goal

-- where the items from here on end is where all end
abbrev pub invariant-loop-byte : goal.invariant-loop-byte
invariant-loop-byte l = (r : ℕ) → ItemsEnd l.self.code.now l.end r → ItemsEnd l.self.code.now l.at r

abbrev pub decreases-loop-byte : goal.decreases-loop-byte
decreases-loop-byte l = length l.self.code.now - l.end
