use Rattle.std.proofs.Common.{◌-◌, length}
use Rattle.patterns.specs.Judged.{ItemsRead}
use Rattle.patterns.specs.declared.judge.Judged.{Judged}
use Rattle.patterns.proofs.judge.Matcher.items.Given as goal

-- what is found of the items that are left is what is found of all
abbrev pub invariant-loop-byte : goal.invariant-loop-byte
invariant-loop-byte l = (r : Judged) → ItemsRead l.self.above.now l.self.event.now l.i l.self.code.now l.at r → ItemsRead l.self.above.now l.self.event.now 0 l.self.code.now l.from r

abbrev pub decreases-loop-byte : goal.decreases-loop-byte
decreases-loop-byte l = length l.self.code.now - l.at
