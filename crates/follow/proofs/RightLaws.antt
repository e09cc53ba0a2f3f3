-- Positions that are right stay right where the events meet the same patterns by another test.
-- Assumes nothing.
use Rattle.std.proofs.Common.{◌≡◌, refl, sym, ap₂, ◌∙◌, Bool, ◌||◌, inl, inr, List, ℕ, ◌+◌}
use Rattle.common.specs.All.{All}
use Rattle.common.proofs.AllLaws.{all_map}
use Rattle.positions.specs.Past.{Past, pat, empty, seq, alt, star}
use Rattle.positions.specs.Numbers.{size, met_at, Each, each_none, each_more}
use Rattle.positions.specs.Positions.{Held}
use Rattle.positions.specs.Summaries.{Right}

met_agree : {P : Type 0} (t u : P → Bool) → ((p : P) → t p ≡ u p) → (φ : Past P) (i k : ℕ) → met_at t φ i k ≡ met_at u φ i k
met_agree t u h (pat p) i k = rw (h p) refl
met_agree t u h empty i k = refl
met_agree t u h (seq φ ψ) i k = ap₂ ◌||◌ (met_agree t u h φ i k) (met_agree t u h ψ (i + size φ) k)
met_agree t u h (alt φ ψ) i k = ap₂ ◌||◌ (met_agree t u h φ i k) (met_agree t u h ψ (i + size φ) k)
met_agree t u h (star φ) i k = met_agree t u h φ i k

module _ {P A : Type 0} where
  each_agree : (meets meets' : A → P → Bool) (φ : Past P) {l : List A} {w : List ℕ} → All (λ a. (p : P) → meets a p ≡ meets' a p) l
      → Each (λ a k. met_at (meets a) φ 0 k) l w → Each (λ a k. met_at (meets' a) φ 0 k) l w
  each_agree meets meets' φ h each_none = each_none
  each_agree meets meets' φ h (each_more {a = a} {b = k} e r) = each_more (sym (met_agree (meets a) (meets' a) h.0 φ 0 k) ∙ e) (each_agree meets meets' φ h.1 r)

  held_agree : (meets meets' : A → P → Bool) (φ : Past P) (l : List A) → All (λ a. (p : P) → meets a p ≡ meets' a p) l → (k : ℕ) → Held meets φ l k → Held meets' φ l k
  held_agree meets meets' φ l h k (inl z) = inl z
  held_agree meets meets' φ l h k (inr x) = inr (x.0, x.1, x.2, each_agree meets meets' φ h x.3)

  pub right_agree : (meets meets' : A → P → Bool) (φ : Past P) (l : List A) (m : ℕ) → All (λ a. (p : P) → meets a p ≡ meets' a p) l → Right meets φ l m → Right meets' φ l m
  right_agree meets meets' φ l m h r k = (
    λ e. held_agree meets meets' φ l h k ((r k).0 e),
    λ x. (r k).1 (held_agree meets' meets φ l (all_map (λ a. (p : P) → meets a p ≡ meets' a p) (λ a. (p : P) → meets' a p ≡ meets a p) (λ a e p. sym (e p)) l h) k x),
  )
