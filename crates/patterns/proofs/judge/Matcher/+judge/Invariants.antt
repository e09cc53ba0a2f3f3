use Rattle.std.proofs.Common.{◌-◌, ◌+◌, ◌*◌, length}
use Rattle.patterns.proofs.JudgeLaws.{level}
use Rattle.patterns.proofs.judge.Matcher.+judge.Given as goal

abbrev pub decreases-judge : goal.decreases-judge
decreases-judge l = 2 * (length l.self.now.code.now - l.at) + level l.whole
