-- The laws of sets as numbers: what is in the empty set, in a set of one, in a union, in what two sets share.
-- Assumes nothing.
use Rattle.std.proofs.Common.{◌≡◌, refl, sym, ap, ◌∙◌, Bool, true, false, not, ◌&&◌, ◌||◌, ◌↔◌, ℕ, zero, suc, ◌+◌, ◌-◌, ◌*◌, ◌/◌, ◌%◌, ◌^◌, ◌<◌, ◌≤◌, max, min, one-mul, div-one, mod-lt, pow-suc, arith, shl_exact, shr-shr, pow_mono, pow-add, pow_pos, bit_or, bit_and, eqb, ltb, ltb-true, ltb-false, lt-ltb, eqb-true, ne_eqb}
use Rattle.std.proofs.lemmas.Bool.{false≢true, eqb-false, not-true}
use Rattle.std.proofs.Math.Nat.{div-eq_of_lt, mul-mod_left}
use Rattle.std.proofs.Math.Arith.{digits_mod, lt_of_le-ne}
use Rattle.std.proofs.lemmas.Nat.{shl-shr, or_shr, and_shr}
use Rattle.std.proofs.Math.Pow.{pow-lt, split}
use lib.Bits.{or_step, and_step}
use Rattle.common.specs.Sets.{has_at, bit_of, only_if, shares}
use Rattle.common.proofs.Bools.{and_both, and_left, and_right}

-- a one moved up by less than 64 places
pub single_shl : (k : ℕ) → k < 64 → (1 * 2 ^ k) % 2 ^ 64 ≡ 2 ^ k
single_shl k h = shl_exact 1 k 64 (omega arith) (omega arith) ∙ one-mul (2 ^ k)

-- a number below 2 ^ n has no bit from n on
pub has_above : (m n k : ℕ) → m < 2 ^ n → n ≤ k → has_at m k ≡ false
has_above m n k h l = let g : m < 2 ^ k = omega (arith, pow_mono l) in ap (λ (x : ℕ). eqb (x % 2) 1) (div-eq_of_lt g)

-- nothing is in the empty set
pub has_none : (k : ℕ) → has_at 0 k ≡ false
has_none k = ap (λ (x : ℕ). eqb (x % 2) 1) (div-eq_of_lt (pow_pos k))

-- the greater and the lesser of two binary digits
digit_or : (x y : ℕ) → x < 2 → y < 2 → (max x y < 2) × (eqb (max x y) 1 ≡ eqb x 1 || eqb y 1)
digit_or zero zero h k = (omega arith, refl)
digit_or zero (suc zero) h k = (omega arith, refl)
digit_or zero (suc (suc y)) h k = absurd (omega arith)
digit_or (suc zero) zero h k = (omega arith, refl)
digit_or (suc zero) (suc zero) h k = (omega arith, refl)
digit_or (suc zero) (suc (suc y)) h k = absurd (omega arith)
digit_or (suc (suc x)) y h k = absurd (omega arith)

digit_and : (x y : ℕ) → x < 2 → y < 2 → (min x y < 2) × (eqb (min x y) 1 ≡ eqb x 1 && eqb y 1)
digit_and zero zero h k = (omega arith, refl)
digit_and zero (suc zero) h k = (omega arith, refl)
digit_and zero (suc (suc y)) h k = absurd (omega arith)
digit_and (suc zero) zero h k = (omega arith, refl)
digit_and (suc zero) (suc zero) h k = (omega arith, refl)
digit_and (suc zero) (suc (suc y)) h k = absurd (omega arith)
digit_and (suc (suc x)) y h k = absurd (omega arith)

or_odd : (a b : ℕ) → eqb (bit_or a b % 2) 1 ≡ eqb (a % 2) 1 || eqb (b % 2) 1
or_odd a b =
    let d = digit_or (a % 2) (b % 2) (omega arith) (omega arith) in
    ap (λ (n : ℕ). eqb (n % 2) 1) (or_step a b) ∙ ap (λ (n : ℕ). eqb n 1) (digits_mod (bit_or (a / 2) (b / 2)) d.0) ∙ d.1

and_odd : (a b : ℕ) → eqb (bit_and a b % 2) 1 ≡ eqb (a % 2) 1 && eqb (b % 2) 1
and_odd a b =
    let d = digit_and (a % 2) (b % 2) (omega arith) (omega arith) in
    ap (λ (n : ℕ). eqb (n % 2) 1) (and_step a b) ∙ ap (λ (n : ℕ). eqb n 1) (digits_mod (bit_and (a / 2) (b / 2)) d.0) ∙ d.1

-- in a union is what is in one of the two
pub has_or : (a b k : ℕ) → has_at (bit_or a b) k ≡ has_at a k || has_at b k
has_or a b k = ap (λ (n : ℕ). eqb (n % 2) 1) (or_shr a b k) ∙ or_odd (a / 2 ^ k) (b / 2 ^ k)

-- in what two sets share is what is in both
pub has_and : (a b k : ℕ) → has_at (bit_and a b) k ≡ has_at a k && has_at b k
has_and a b k = ap (λ (n : ℕ). eqb (n % 2) 1) (and_shr a b k) ∙ and_odd (a / 2 ^ k) (b / 2 ^ k)

pub has_only_if : (b : Bool) (m k : ℕ) → has_at (only_if b m) k ≡ b && has_at m k
has_only_if true m k = refl
has_only_if false m k = has_none k

has_same : (k : ℕ) → has_at (2 ^ k) k ≡ true
has_same k = ap (λ (n : ℕ). eqb (n / 2 ^ k % 2) 1) (sym (one-mul (2 ^ k))) ∙ ap (λ (n : ℕ). eqb (n % 2) 1) (shl-shr 1 k)

has_lower : (d k : ℕ) → has_at (2 ^ (suc d + k)) k ≡ false
has_lower d k =
    ap (λ (n : ℕ). eqb (n / 2 ^ k % 2) 1) (pow-add 2 (suc d) k) ∙ ap (λ (n : ℕ). eqb (n % 2) 1) (shl-shr (2 ^ suc d) k)
    ∙ ap (λ (n : ℕ). eqb (n % 2) 1) (pow-suc 2 d) ∙ ap (λ (n : ℕ). eqb n 1) (mul-mod_left (2 ^ d) 2)

has_other : (j k : ℕ) → (j ≡ k → ⊥) → has_at (2 ^ j) k ≡ false
has_other j k ne = go (ltb j k) refl
  where
    go : (b : Bool) → ltb j k ≡ b → has_at (2 ^ j) k ≡ false
    go true e = ap (λ (n : ℕ). eqb (n % 2) 1) (div-eq_of_lt (pow-lt (ltb-true j k e)))
    go false e =
        let h : k < j = lt_of_le-ne (ltb-false j k e) (λ d. ne (sym d)) in
        let q : suc (j - k - 1) + k ≡ j = omega arith in
        ap (λ (n : ℕ). has_at (2 ^ n) k) (sym q) ∙ has_lower (j - k - 1) k

has_power : (k n : ℕ) → has_at (2 ^ k) n ≡ eqb n k
has_power k n = go (eqb n k) refl
  where
    go : (b : Bool) → eqb n k ≡ b → has_at (2 ^ k) n ≡ b
    go true e = rw (eqb-true n k e) (has_same k)
    go false e = has_other k n (λ d. eqb-false n k e (sym d))

-- in the set of k is k alone
pub has_bit : (k n : ℕ) → k < 64 → has_at (bit_of k) n ≡ eqb n k
has_bit k n h = rw (lt-ltb k 64 h) (has_power k n)

-- the number 1 is the set of 0
pub has_one : (n : ℕ) → has_at 1 n ≡ eqb n 0
has_one n = has_power 0 n

-- the bits from n on are those of the number moved down by n places
pub has_shifted : (m n k : ℕ) → has_at (m / 2 ^ n) k ≡ has_at m (n + k)
has_shifted m n k = ap (λ (x : ℕ). eqb (x % 2) 1) (shr-shr m n k)

-- a number that is not 0 has a bit
pub some_bit : (f m : ℕ) → m ≤ f → (m ≡ 0 → ⊥) → (k : ℕ) × (has_at m k ≡ true)
some_bit zero m l ne = absurd (ne (omega arith))
some_bit (suc f) m l ne = go (eqb (m % 2) 1) refl (λ h. some_bit f (m / 2) (omega arith) h)
  where
    go : (b : Bool) → eqb (m % 2) 1 ≡ b → ((m / 2 ≡ 0 → ⊥) → (k : ℕ) × (has_at (m / 2) k ≡ true)) → (k : ℕ) × (has_at m k ≡ true)
    go true e more = (0, ap (λ (x : ℕ). eqb (x % 2) 1) (div-one m) ∙ e)
    go false e more =
        let r = more (λ z. ne (let o = eqb-false (m % 2) 1 e in omega arith)) in
        (1 + r.0, sym (has_shifted m 1 r.0) ∙ r.1)

-- two sets share a number exactly where some number is in both
pub shares_iff : (a b : ℕ) → (shares a b ≡ true) ↔ ((k : ℕ) × (has_at a k ≡ true) × (has_at b k ≡ true))
shares_iff a b = (yes, back)
  where
    yes : shares a b ≡ true → (k : ℕ) × (has_at a k ≡ true) × (has_at b k ≡ true)
    yes e =
        let r = some_bit (bit_and a b) (bit_and a b) (omega arith) (eqb-false (bit_and a b) 0 (not-true (eqb (bit_and a b) 0) e)) in
        let h = sym (has_and a b r.0) ∙ r.1 in
        (r.0, and_left (has_at a r.0) _ h, and_right (has_at a r.0) _ h)

    back : (k : ℕ) × (has_at a k ≡ true) × (has_at b k ≡ true) → shares a b ≡ true
    back (k, p, q) =
        ap not (ne_eqb (bit_and a b) 0 (λ z. false≢true (sym (has_none k) ∙ ap (λ (x : ℕ). has_at x k) (sym z) ∙ has_and a b k ∙ and_both p q)))

-- a number all of whose bits are below n is below 2 ^ n
pub bits_below : (m n : ℕ) → ((k : ℕ) → has_at m k ≡ true → k < n) → m < 2 ^ n
bits_below m n h = go (eqb (m / 2 ^ n) 0) refl
  where
    go : (b : Bool) → eqb (m / 2 ^ n) 0 ≡ b → m < 2 ^ n
    go true e = rw (← split m n, eqb-true (m / 2 ^ n) 0 e) (omega (arith, mod-lt m (pow_pos n)))
    go false e =
        let r = some_bit (m / 2 ^ n) (m / 2 ^ n) (omega arith) (eqb-false (m / 2 ^ n) 0 e) in
        let l = h (n + r.0) (sym (has_shifted m n r.0) ∙ r.1) in
        absurd (omega arith)
