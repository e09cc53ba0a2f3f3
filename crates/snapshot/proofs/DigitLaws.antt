-- Laws of hexadecimal digits: the value of a byte, of one digit more at the end, and how large a number of some digits can be.
-- Assumes nothing.
use Rattle.std.proofs.Common.{◌≡◌, refl, sym, ap, ◌∙◌, Bool, true, false, cond, eqb, ℕ, zero, suc, ◌+◌, ◌-◌, ◌*◌, ◌/◌, ◌%◌, ◌^◌, ◌<◌, ◌≤◌, min, List, [], ◌∷◌, ◌++◌, length, take, drop, get_or, arith, add-one, length-drop, length-take, ⊎_elim, ◌⊎◌, inl, inr, take_all, take-suc, drop_of_length-le}
use Rattle.std.proofs.Math.Nat.{pow-le-pow_right}
use Rattle.std.proofs.lemmas.Bool.Decides.{leb_tells}
use Rattle.std.proofs.Math.Seq.{take-nil}
use Rattle.book.specs.Images.{digits, hex_digit, hex_of}
use Rattle.book.specs.Restoring.{short_digits, digits_of, hex_value, value_from, marks_in}
use Rattle.book.proofs.MarkRecords.{value-end, marks-below}

-- READING

-- the columns of d digits, as many of them as there are
pub columns-are : (d : ℕ) (r : List ℕ) (a b : ℕ) → a ≡ min (length r) 10 → b ≡ min (length r) (10 + d) → take (b - a) (drop a r) ≡ take d (drop 10 r)
columns-are d r a b p q = ⊎_elim short (λ h. ⊎_elim (some h) (full h) (split (10 + d))) (split 10)
  where
    split : (n : ℕ) → (length r ≤ n) ⊎ (n < length r)
    split n = ⊎_elim (λ h. inl h.1) (λ h. inr h.1) (leb_tells (length r) n)

    short : length r ≤ 10 → take (b - a) (drop a r) ≡ take d (drop 10 r)
    short h = rw (drop_of_length-le r {i = a} (omega arith), drop_of_length-le r {i = 10} h, take-nil (b - a), take-nil d) refl

    from : 10 < length r → drop a r ≡ drop 10 r
    from h = let e : a ≡ 10 = omega arith in ap (λ (j : ℕ). drop j r) e

    some : 10 < length r → length r ≤ 10 + d → take (b - a) (drop a r) ≡ take d (drop 10 r)
    some h k = let l = length-drop 10 r in rw (from h) (take_all (b - a) (drop 10 r) (omega arith) ∙ sym (take_all d (drop 10 r) (omega arith)))

    full : 10 < length r → 10 + d < length r → take (b - a) (drop a r) ≡ take d (drop 10 r)
    full h k = let e : b - a ≡ d = omega arith in rw (from h, e) refl

-- a record is read with sixteen digits at most
pub digits_few : (d : ℕ) (r : List ℕ) → d ≡ digits_of r → d ≤ 16
unfolding digits_of
digits_few d r = go (eqb (get_or r 18 0) 32)
  where
    go : (q : Bool) → d ≡ cond q short_digits digits → d ≤ 16
    go true e = omega arith
    go false e = omega arith

-- fifteen digits leave room for one more in 64 bits, and there are sixteen columns at most
pub room_left : (d : ℕ) (r : List ℕ) (a b k n : ℕ) → d ≡ digits_of r → a ≡ min (length r) 10 → b ≡ min (length r) (10 + d) → k < length (take (b - a) (drop a r))
    → n ≡ value_from 0 (take k (take (b - a) (drop a r))) → n < 1152921504606846976
unfolding marks_in
room_left d r a b k n o p q h e =
    let l = length-take d (drop 10 r) in
    let z = digits_few d r o in
    let y = ap length (columns-are d r a b p q) in
    let few : k ≤ 15 = omega (arith, h, l, y, z, o) in
    let m : value_from 0 (take k (take (b - a) (drop a r))) < 16 ^ k = marks-below k (0 ∷ 0 ∷ 0 ∷ 0 ∷ 0 ∷ 0 ∷ 0 ∷ 0 ∷ 0 ∷ 0 ∷ take (b - a) (drop a r)) in
    let w : 16 ^ k ≤ 16 ^ 15 = pow-le-pow_right (omega arith) few in
    omega (arith, e, m, w)

-- one digit more
pub digit_more : (k : ℕ) (s : List ℕ) → k < length s → value_from 0 (take (k + 1) s) ≡ value_from 0 (take k s) * 16 + hex_value (get_or s k 0)
digit_more k s h = rw (add-one, take-suc s k 0 h) (value-end 0 (take k s) (get_or s k 0))

-- WRITING

-- no digits; and the last of some, after the others
pub hex_none : (k m : ℕ) → k ≡ 0 → hex_of k m ≡ []
unfolding hex_of
hex_none zero m h = refl
hex_none (suc k) m h = absurd (omega arith)

pub hex_last : (k m : ℕ) → (k ≡ 0 → ⊥) → hex_of k m ≡ hex_of (k - 1) (m / 16) ++ (hex_digit (m % 16) ∷ [])
unfolding hex_of
hex_last zero m h = absurd (h refl)
hex_last (suc k) m h = let e : suc k - 1 ≡ k = omega arith in rw e refl
