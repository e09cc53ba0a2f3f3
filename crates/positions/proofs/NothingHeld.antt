-- Where no position is held, none is held after any event: a past that can no longer match needs no pass.
-- Assumes nothing.
use Rattle.std.proofs.Common.{◌≡◌, refl, sym, ap, Bool, true, false, ◌&&◌, ℕ, bit_or}
use Rattle.positions.specs.Past.{Past, pat, empty, seq, alt, star}
use Rattle.positions.specs.Summaries.{pat_summary, seq_summary, alt_summary, star_summary, summary, step_of}
use Rattle.positions.specs.declared.summaries.Summary.{Summary}
use Rattle.common.proofs.SetLaws.{has_none}

-- nothing ends, and nothing moves
abbrev Idle : Summary → Type 0
Idle s = (s.ending ≡ false) × (s.moved ≡ 0)

seq_idle : (p q : Summary) → Idle p → Idle q → Idle (seq_summary p q)
unfolding seq_summary
seq_idle p q a b = (rw (a.0, b.0) (none q.nullable), rw (a.0, a.1, b.1) refl)
  where
    none : (b : Bool) → b && false ≡ false
    none true = refl
    none false = refl

alt_idle : (p q : Summary) → Idle p → Idle q → Idle (alt_summary p q)
unfolding alt_summary
alt_idle p q a b = (rw (a.0, b.0) refl, rw (a.1, b.1) refl)

star_idle : (p : Summary) → Idle p → Idle (star_summary p)
unfolding star_summary
star_idle p a = (a.0, rw (a.0, a.1) refl)

idle : {P : Type 0} (t : P → Bool) (φ : Past P) (k : ℕ) → Idle (summary 0 t φ k)
unfolding summary pat_summary seq_summary alt_summary star_summary
idle t (pat p) k = (has_none k, refl)
idle t empty k = (refl, refl)
idle t (seq φ ψ) k = seq_idle (summary 0 t φ k) (summary 0 t ψ (summary 0 t φ k).next) (idle t φ k) (idle t ψ (summary 0 t φ k).next)
idle t (alt φ ψ) k = alt_idle (summary 0 t φ k) (summary 0 t ψ (summary 0 t φ k).next) (idle t φ k) (idle t ψ (summary 0 t φ k).next)
idle t (star φ) k = star_idle (summary 0 t φ k) (idle t φ k)

pub step-none : {P : Type 0} (t : P → Bool) (φ : Past P) (k : ℕ) → 0 ≡ step_of 0 (summary 0 t φ k)
unfolding step_of
step-none t φ k = sym (ap (λ (x : ℕ). bit_or x 0) (idle t φ k).1)
