use Rattle.std.proofs.Common.{refl}
use Rattle.grammar.specs.Parsed.{mark_is}
use Rattle.grammar.proofs.LeafLaws.{no_token, mark-read, mark-other}
use Rattle.grammar.proofs.leaves.mark_at.Goals as goal

pub returns-in_err-token : goal.returns-in_err-token
unfolding mark_is
returns-in_err-token c = rw c.from_residual.ensures (no_token _ (mark_is c.args.b) c.in_err-token.ensures refl)

pub returns-in-Mark : goal.returns-in-Mark
returns-in-Mark c = rw c.then_some.ensures (mark-read _ _ _ _ (rw c.in-Mark.is at c.in_ok-token.ensures))

pub returns-in_default : goal.returns-in_default
returns-in_default c = mark-other _ _ _ _ c.in_ok-token.ensures c.in_default.not-Mark
