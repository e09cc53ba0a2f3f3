-- What a read on brings, beside what was read before it.
-- Assumes nothing.
use Rattle.std.proofs.Common.{◌≡◌, ℕ, ◌+◌, ◌≤◌, List, ◌++◌, take, length, sym, ap, ◌∙◌, subst, Option}
use Rattle.std.specs.Io.KnownBytes.{Consumes}
use Rattle.std.proofs.KnownBytes.{Consumes-trans}
use Rattle.std.proofs.Math.Seq.{take-append-add, take-append-le}

-- a bytes were taken from the file, and n of those that came after them: so were the first a + n
pub taken_more : (old mid now : Option (List ℕ)) (a n : ℕ) (before came after : List ℕ) → length before ≡ a → n ≤ length came
    → Consumes old mid before → Consumes mid now (take n came) → Consumes old now (take (a + n) (before ++ (came ++ after)))
taken_more old mid now a n before came after e h p q =
    let all : take (a + n) (before ++ (came ++ after)) ≡ before ++ take n came =
    ap (λ k. take (k + n) (before ++ (came ++ after))) (sym e) ∙ take-append-add before (came ++ after) n ∙ ap (λ l. before ++ l) (take-append-le n came after h) in
    subst (Consumes old now) (sym all) (Consumes-trans old mid now before (take n came) p q)
