-- What is handed back says its verdict, and its refusal has the verdict's number.
-- Assumes nothing.
use Rattle.std.proofs.Common.{◌≡◌, Bool, true, false, cond, ℕ, eqb, refl, ap, ◌∙◌, Result, Err}
use Rattle.common.specs.Refusals.{answer_number}
use Rattle.common.specs.declared.refusals.Refusal.{Refusal}
use Rattle.common.specs.declared.refusals.Refusal.TheVariants.{NotDeclared, NotInLanguage, Malformed}
use Rattle.judge.specs.Judge.{number_of, verdict_by}
use Rattle.judge.specs.Judging.{verdict_of, answer_of, refusal_by}
use Rattle.judge.specs.Verdict.{Verdict}
use Rattle.judge.specs.Verdict as verdict

-- the verdict is the one that is handed back
pub verdict-kept : (v : Verdict) → verdict_of (answer_of v) ≡ v
verdict-kept verdict.Yes = refl
verdict-kept verdict.No = refl
verdict-kept verdict.NoRule = refl
verdict-kept verdict.NotWhole = refl
verdict-kept verdict.Malformed = refl
verdict-kept verdict.NotInLanguage = refl
verdict-kept verdict.Unknown = refl

-- its number is the refusal's, and 0 for yes and no
pub number_kept : (v : Verdict) → answer_number (answer_of v) ≡ number_of v
number_kept verdict.Yes = refl
number_kept verdict.No = refl
number_kept verdict.NoRule = refl
number_kept verdict.NotWhole = refl
number_kept verdict.Malformed = refl
number_kept verdict.NotInLanguage = refl
number_kept verdict.Unknown = refl

-- the same of what is handed back
pub number_handed : (r : Result Bool Refusal) → r ≡ answer_of (verdict_of r) → answer_number r ≡ number_of (verdict_of r)
number_handed r e = ap answer_number e ∙ number_kept (verdict_of r)

-- the refusal that row n gives is the judge's
pub verdict_by-number : (n : ℕ) → verdict_of (Err (refusal_by n)) ≡ verdict_by n
verdict_by-number n = go (eqb n 6) (eqb n 4)
  where
    go : (a b : Bool) → verdict_of (Err (cond a NotDeclared (cond b NotInLanguage Malformed))) ≡ cond a verdict.Unknown (cond b verdict.NotInLanguage verdict.Malformed)
    go true b = refl
    go false true = refl
    go false false = refl

pub seven-by_number : (n : ℕ) → Err (refusal_by n) ≡ answer_of (verdict_of (Err (refusal_by n)))
seven-by_number n = go (eqb n 6) (eqb n 4)
  where
    go : (a b : Bool) → Err (cond a NotDeclared (cond b NotInLanguage Malformed)) ≡ answer_of (verdict_of (Err (cond a NotDeclared (cond b NotInLanguage Malformed))))
    go true b = refl
    go false true = refl
    go false false = refl
