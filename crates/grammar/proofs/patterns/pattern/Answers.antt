-- `pattern` answers as its parser does at each depth: a condition in square brackets, or a simple pattern.
use Rattle.grammar.proofs.LevelPatterns.{pattern-plain, pattern_bad, pattern-bracketed}
use Rattle.grammar.proofs.patterns.pattern.Goals as goal

pub returns-in_default : goal.returns-in_default
returns-in_default c = pattern-plain _ _ c.in_default.ensures c.simple.ensures

pub returns-in_err-close : goal.returns-in_err-close
returns-in_err-close c = rw c.from_residual.ensures (pattern_bad _ _ c.in-Some.ensures c.in_err-close.ensures)

pub returns : goal.returns
returns c = pattern-bracketed _ _ _ _ c.in-Some.ensures c.in_ok-close.ensures c.mark_at-2.ensures
