-- A refusal's number is from 1 to 13, so 0 says that a call is taken.
-- Assumes nothing.
use Rattle.std.proofs.Common.{◌≡◌, ◌∙◌, ℕ, true, false, refl, sym, ap}
use Rattle.std.specs.Prelude.{eqb}
use Rattle.common.specs.Refusals.{refusal_number}
use Rattle.common.specs.declared.refusals.Refusal.{Refusal}
use Rattle.common.specs.declared.refusals.Refusal.TheVariants.{ReplyLength, RecordLength, Malformed, NotInLanguage, NameTaken, NotDeclared, TooManyPatterns, Full, NoRule, ListLength, BatchLength, ImageTurnedAway, ImageLength}

-- no refusal has the number 0
pub refusal_nonzero : (r : Refusal) → eqb (refusal_number r) 0 ≡ false
refusal_nonzero ReplyLength = refl
refusal_nonzero RecordLength = refl
refusal_nonzero Malformed = refl
refusal_nonzero NotInLanguage = refl
refusal_nonzero NameTaken = refl
refusal_nonzero NotDeclared = refl
refusal_nonzero TooManyPatterns = refl
refusal_nonzero Full = refl
refusal_nonzero NoRule = refl
refusal_nonzero ListLength = refl
refusal_nonzero BatchLength = refl
refusal_nonzero ImageTurnedAway = refl
refusal_nonzero ImageLength = refl

-- the same, said of an equation
pub refusal_some : (r : Refusal) → refusal_number r ≡ 0 → ⊥
refusal_some r z =
    let h : true ≡ false = ap (λ (n : ℕ). eqb n 0) (sym z) ∙ refusal_nonzero r in
    cc
