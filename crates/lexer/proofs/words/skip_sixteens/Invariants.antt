use Rattle.std.proofs.Common.{◌≡◌, length}
use Rattle.lexer.specs.Class.{spacey}
use Rattle.lexer.specs.Run.{after}
use Rattle.lexer.proofs.words.skip_sixteens.Given as goal

abbrev pub invariant-loop-front : goal.invariant-loop-front
invariant-loop-front l = after spacey l.left ≡ after spacey l.s

abbrev pub decreases-loop-front : goal.decreases-loop-front
decreases-loop-front l = length l.left
