-- A record made from its text is whole, and the records of a buffer, one after the other, are its bytes.
-- Assumes nothing.
use Rattle.std.proofs.Common.{◌≡◌, refl, ap, ◌∙◌, List, [], ◌∷◌, ◌++◌, ℕ, zero, suc, ◌*◌, ◌≤◌, arith, length, take, drop, replicate, length-append, length-drop, take-append-drop, length-take-le}
use mathlib.Core.List.{flatten}
use Rattle.std.proofs.lemmas.List.{length-replicate}
use Rattle.common.specs.Limits.{record_size}
use Rattle.frame.specs.Record.{newline}
use Rattle.frame.specs.Records.{record_of, records_of}

-- a text of any length, made a record, has the bytes of one
pub record_length : (s : List ℕ) → length (record_of s) ≡ record_size
record_length s =
    let k : 127 ≤ length (s ++ replicate 127 32) = omega (arith, length-append s (replicate 127 32), length-replicate {A = ℕ} 127 32) in
    let h : length (take 127 (s ++ replicate 127 32)) ≡ 127 = length-take-le 127 (s ++ replicate 127 32) k in
    omega (arith, h, length-append (take 127 (s ++ replicate 127 32)) (newline ∷ []))

pub records-joined : (n : ℕ) (s : List ℕ) → length s ≤ n * 128 → flatten (records_of n s) ≡ s
unfolding flatten
records-joined zero [] h = refl
records-joined zero (b ∷ s) h = absurd (omega arith)
records-joined (suc n) s h =
    ap (λ (l : List ℕ). take 128 s ++ l) (records-joined n (drop 128 s) (omega (arith, length-drop 128 s))) ∙ take-append-drop 128 s
