-- One byte more in an array that is filled up with 0.
-- Assumes nothing.
use Rattle.std.proofs.Common.{◌≡◌, ap, sym, ◌∙◌, List, [], ◌∷◌, ◌++◌, append_assoc, ℕ, suc, ◌+◌, ◌-◌, ◌<◌, arith, length, set, replicate}
use Rattle.std.proofs.lemmas.List.{set_at}

pub filled_more : (size len c : ℕ) (done : List ℕ) → length done ≡ len → len < size
    → set (done ++ replicate (size - len) 0) len c ≡ (done ++ (c ∷ [])) ++ replicate (size - (len + 1)) 0
filled_more size len c done e h =
    let k : size - len ≡ suc (size - (len + 1)) = omega arith in
    ap (λ (n : ℕ). set (done ++ replicate n 0) len c) k
    ∙ set_at done 0 (replicate (size - (len + 1)) 0) c len e
    ∙ sym (append_assoc done (c ∷ []) (replicate (size - (len + 1)) 0))
