-- Sizes that add up to a length, and whether all fit.
-- Assumes nothing.
use Rattle.std.proofs.Common.{◌≡◌, ap, true, List, ◌∷◌, ℕ, ◌+◌, ◌≤◌, ◌<◌, add-one, eqb, length, drop, get_or, drop_of_length-le, drop-cons, eqb-true, eq-eqb}
use Rattle.common.proofs.Bools.{and_left, and_right, and_both}
use Rattle.stand.specs.Calls.{total, Fit, all_fit}

-- the element at k, and those after it
pub drop_here : (k : ℕ) (l : List ℕ) → k < length l → drop k l ≡ get_or l k 0 ∷ drop (k + 1) l
drop_here k l h = rw add-one (drop-cons l k 0 h)

pub total_here : (k : ℕ) (l : List ℕ) → k < length l → total (drop k l) ≡ get_or l k 0 + total (drop (k + 1) l)
total_here k l h = ap total (drop_here k l h)

pub total-end : (k : ℕ) (l : List ℕ) → length l ≤ k → total (drop k l) ≡ 0
total-end k l h = ap total (drop_of_length-le l h)

-- WHETHER ALL FIT

pub fit_told : (s ns ws b cs : List ℕ) → all_fit ns (length s) ws (length b) (length cs) ≡ true → Fit s ns ws b cs
unfolding all_fit
fit_told s ns ws b cs e₀ =
    let e₁ = and_right (eqb (total ns) (length s)) _ e₀ in
    let e₂ = and_right (eqb (total ws) (length b)) _ e₁ in
    record {
      records = eqb-true (total ns) (length s) (and_left (eqb (total ns) (length s)) _ e₀);
      replies = eqb-true (total ws) (length b) (and_left (eqb (total ws) (length b)) _ e₁);
      sizes = eqb-true (length ns) (length ws) (and_left (eqb (length ns) (length ws)) _ e₂);
      numbers = eqb-true (length ns) (length cs) (and_right (eqb (length ns) (length ws)) _ e₂);
    }

pub told_fit : (s ns ws b cs : List ℕ) → Fit s ns ws b cs → all_fit ns (length s) ws (length b) (length cs) ≡ true
unfolding all_fit
told_fit s ns ws b cs f =
    and_both (eq-eqb (total ns) (length s) f.records)
    (and_both (eq-eqb (total ws) (length b) f.replies) (and_both (eq-eqb (length ns) (length ws) f.sizes) (eq-eqb (length ns) (length cs) f.numbers)))
