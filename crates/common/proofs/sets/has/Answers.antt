use Rattle.std.proofs.Common.{sym, arith, le-ltb}
use Rattle.common.proofs.SetLaws.{has_above}
use Rattle.common.proofs.sets.has.Goals as goal

pub returns-else-k-lt64 : goal.returns-else-k-lt64
returns-else-k-lt64 c = simp (le-ltb _ _ c.if-k-lt64.false) (sym (has_above c.args.m 64 c.args.k (omega arith) c.if-k-lt64.false))
