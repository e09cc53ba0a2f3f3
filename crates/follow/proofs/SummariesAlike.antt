-- What the pass finds of a past's end does not depend on the event or on the positions held.
-- Assumes nothing.
use Rattle.std.proofs.Common.{◌≡◌, refl, subst, Bool, ℕ}
use Rattle.positions.specs.Past.{Past, pat, empty, seq, alt, star}
use Rattle.positions.specs.Summaries.{pat_summary, seq_summary, alt_summary, star_summary, summary, ends_of}
use Rattle.positions.specs.declared.summaries.Summary.{Summary}

record Alike (a b : Summary) : Type 0 where
  next : a.next ≡ b.next
  nullable : a.nullable ≡ b.nullable
  last : a.last ≡ b.last

alike : {P : Type 0} (m n : ℕ) (f g : P → Bool) (φ : Past P) (k : ℕ) → Alike (summary m f φ k) (summary n g φ k)
unfolding summary pat_summary seq_summary alt_summary star_summary
alike m n f g (pat p) k = record { next = refl; nullable = refl; last = refl }
alike m n f g empty k = record { next = refl; nullable = refl; last = refl }
alike m n f g (seq φ ψ) k =
    let a = alike m n f g φ k in
    let b = subst (λ (z : ℕ). Alike (summary m f ψ (summary m f φ k).next) (summary n g ψ z)) a.next (alike m n f g ψ (summary m f φ k).next) in
    record { next = b.next; nullable = cc (a.nullable, b.nullable); last = cc (a.last, b.last, b.nullable) }
alike m n f g (alt φ ψ) k =
    let a = alike m n f g φ k in
    let b = subst (λ (z : ℕ). Alike (summary m f ψ (summary m f φ k).next) (summary n g ψ z)) a.next (alike m n f g ψ (summary m f φ k).next) in
    record { next = b.next; nullable = cc (a.nullable, b.nullable); last = cc (a.last, b.last) }
alike m n f g (star φ) k = let a = alike m n f g φ k in record { next = a.next; nullable = refl; last = a.last }

pub ends_alike : {P : Type 0} (m n : ℕ) (f g : P → Bool) (φ : Past P) (k : ℕ) → ends_of (summary m f φ k) ≡ ends_of (summary n g φ k)
unfolding ends_of
ends_alike m n f g φ k = let a = alike m n f g φ k in cc (a.nullable, a.last)
