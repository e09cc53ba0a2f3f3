use Rattle.std.proofs.Common.{refl, rules}
use Rattle.grammar.specs.Parsed.{place_is}
use Rattle.grammar.proofs.LeafLaws.{no_token, place-yes, place-no}
use Rattle.grammar.proofs.leaves.place_at.Goals as goal

pub returns-in_err-token : goal.returns-in_err-token
unfolding place_is
returns-in_err-token c = rw c.from_residual.ensures (no_token _ place_is c.in_err-token.ensures refl)

pub returns-in-Word-Digit-1-to-4-default : goal.returns-in-Word-Digit-1-to-4-default
returns-in-Word-Digit-1-to-4-default c =
    let a = c.in-Word-Digit-1-to-4-default in
    place-yes _ a.field-0-0 _ _ (rw (rw a.is at a.field-0-is) at (rw a.is at c.in_ok-token.ensures)) (grind rules) (grind rules)

pub returns-in_default : goal.returns-in_default
returns-in_default c = place-no _ _ _ c.in_ok-token.ensures (λ d w e l m. grind rules)
