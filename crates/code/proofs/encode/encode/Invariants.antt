use Rattle.std.proofs.Common.{length}
use Rattle.code.proofs.EncodeLaws.{Going}
use Rattle.code.proofs.encode.encode.Given as goal

abbrev pub invariant-loop-byte : goal.invariant-loop-byte
invariant-loop-byte l = Going l.names l.text l.code l.len l.left l.unknown

abbrev pub decreases-loop-byte : goal.decreases-loop-byte
decreases-loop-byte l = length l.left
