-- `encode` meets its contract: what is coded so far and the code of what is left make the whole; what is left falls.
-- Assumes nothing.
use Rattle.std.proofs.Common.{refl}
use Rattle.code.proofs.EncodeLaws.{going_start, going_shorter, going_more, going_end, going_full}
use Rattle.code.proofs.encode.encode.Goals as goal

pub loop-byte-init : goal.loop-byte-init
loop-byte-init c = going_start _ _ _ refl

pub loop-byte-smaller : goal.loop-byte-smaller
loop-byte-smaller c = going_shorter _ _ _ _ _ _ c.loop-byte.invariant _ _ _ (rw c.in-Some.is at c.front.ensures)

pub loop-byte-preserved : goal.loop-byte-preserved
loop-byte-preserved c = going_more _ _ _ _ _ _ c.loop-byte.invariant _ _ _ _ (rw c.in-Some.is at c.front.ensures) c.if-len-ge-CODE_SIZE.false refl

pub returns-then-len-ge-CODE_SIZE : goal.returns-then-len-ge-CODE_SIZE
returns-then-len-ge-CODE_SIZE c = going_full _ _ _ _ _ _ c.loop-byte.invariant c.if-len-ge-CODE_SIZE.true

pub returns-in_default : goal.returns-in_default
returns-in_default c = going_end _ _ _ _ _ _ c.loop-byte.invariant (rw c.in_default.is at c.front.ensures)
