-- Laws of packed names: they fit 64 bits, their columns are those of the name, and none stands for two names.
-- Assumes nothing.
use Rattle.std.proofs.Common.{◌≡◌, refl, sym, ap, subst, ◌∙◌, Bool, true, false, List, ℕ, zero, suc, ◌+◌, ◌<◌, ◌≤◌, arith, eqb, length, get_or, eqb-true, le-ltb, ext_get_or}
use Rattle.std.proofs.Math.ListN.{get_or-eq_default}
use Rattle.std.proofs.lemmas.Bool.{eqb-false}
use Rattle.std.specs.Int.{w64, from_be_bytes, to_be_bytes}
use Rattle.std.specs.Fn.{Called}
use Rattle.std.specs.Array.{IsFromFnResultFrom}
use denote.Param.Members.{Mut}
use Rattle.names.specs.Name.{column_of, packed, column_at}
use Rattle.names.specs.Shape.{Bytes, Packable}

-- the bytes of a number, the highest first, are its columns
pub column_byte : (n i : ℕ) → get_or (to_be_bytes w64 n) i 32 ≡ column_at n i
unfolding column_at
column_byte n zero = refl
column_byte n (suc zero) = refl
column_byte n (suc (suc zero)) = refl
column_byte n (suc (suc (suc zero))) = refl
column_byte n (suc (suc (suc (suc zero)))) = refl
column_byte n (suc (suc (suc (suc (suc zero))))) = refl
column_byte n (suc (suc (suc (suc (suc (suc zero)))))) = refl
column_byte n (suc (suc (suc (suc (suc (suc (suc zero))))))) = omega arith
column_byte n (suc (suc (suc (suc (suc (suc (suc (suc i)))))))) = rw (le-ltb (suc (suc (suc (suc (suc (suc (suc (suc i)))))))) 8 (omega arith)) refl

-- an array made by a closure that keeps what it captures: at each place the closure's answer there
pub made_each : {F : Type 0} (g : Mut F (ℕ × Unit {0}) ℕ) (f : F) (answer : ℕ → ℕ) (ys : List ℕ) (i n : ℕ) → ((j y : ℕ) (q : F) → Called g f (j, tt) y q → (q ≡ f) × (y ≡ answer j))
    → IsFromFnResultFrom g f ys i n → (k : ℕ) → i ≤ k → k < i + n → get_or ys k 0 ≡ answer k
made_each {F} g f answer ys i zero h m k l b = absurd (omega arith)
made_each {F} g f answer ys i (suc n) h m k l b =
    go (eqb k i) refl (λ below. made_each g f answer ys (i + 1) n h (subst (λ (q : F). IsFromFnResultFrom g q ys (i + 1) n) (h i m.1 m.0 m.3).0 m.4) k below (omega arith))
  where
    go : (here : Bool) → eqb k i ≡ here → (i + 1 ≤ k → get_or ys k 0 ≡ answer k) → get_or ys k 0 ≡ answer k
    go true e later = rw (eqb-true k i e) (m.2.1 0 ∙ (h i m.1 m.0 m.3).1)
    go false e later = let other = eqb-false k i e in later (omega arith)

-- eight bytes that are a word's columns, as one number
pub packed_joined : (w bs : List ℕ) (n : ℕ) → ((i : ℕ) → i < 8 → get_or bs i 0 ≡ column_of w i) → n ≡ from_be_bytes w64 bs → n ≡ packed w
unfolding packed
packed_joined w bs n h e =
    let h₀ = h 0 (omega arith) in
    let h₁ = h 1 (omega arith) in
    let h₂ = h 2 (omega arith) in
    let h₃ = h 3 (omega arith) in
    let h₄ = h 4 (omega arith) in
    let h₅ = h 5 (omega arith) in
    let h₆ = h 6 (omega arith) in
    let h₇ = h 7 (omega arith) in
    omega arith

module _ (w : List ℕ) (h : Bytes w) where
  -- the eight columns are bytes, as one fact
  eight : (column_of w 0 < 256) × (column_of w 1 < 256) × (column_of w 2 < 256) × (column_of w 3 < 256) × (column_of w 4 < 256) × (column_of w 5 < 256) × (column_of w 6 < 256) × (column_of w 7 < 256)
  eight = (h.byte 0, h.byte 1, h.byte 2, h.byte 3, h.byte 4, h.byte 5, h.byte 6, h.byte 7)

  -- what is printed is the name, padded with spaces
  pub column_packed : (i : ℕ) → i < 8 → column_at (packed w) i ≡ column_of w i
  unfolding packed column_at
  column_packed zero l = omega (arith, eight)
  column_packed (suc zero) l = omega (arith, eight)
  column_packed (suc (suc zero)) l = omega (arith, eight)
  column_packed (suc (suc (suc zero))) l = omega (arith, eight)
  column_packed (suc (suc (suc (suc zero)))) l = omega (arith, eight)
  column_packed (suc (suc (suc (suc (suc zero))))) l = omega (arith, eight)
  column_packed (suc (suc (suc (suc (suc (suc zero)))))) l = omega (arith, eight)
  column_packed (suc (suc (suc (suc (suc (suc (suc zero))))))) l = omega (arith, eight)
  column_packed (suc (suc (suc (suc (suc (suc (suc (suc i)))))))) l = absurd (omega arith)

-- equal numbers have equal columns
pub columns_same : (w v : List ℕ) → Bytes w → Bytes v → packed w ≡ packed v → (i : ℕ) → i < 8 → column_of w i ≡ column_of v i
columns_same w v h g e i l = sym (column_packed w h i l) ∙ ap (λ (n : ℕ). column_at n i) e ∙ column_packed v g i l

-- where one word ends, so does the other
no_longer : (w v : List ℕ) → Packable w → Packable v → packed w ≡ packed v → length w < length v → ⊥
unfolding column_of
no_longer w v h g e l =
    let q = columns_same w v h.bytes g.bytes e (length w) (omega (arith, g.short)) in
    g.spaceless (length w) l (sym q ∙ get_or-eq_default w 32 (omega arith))

-- a packed number is that of one word
pub packed-same : (w v : List ℕ) → Packable w → Packable v → packed w ≡ packed v → w ≡ v
unfolding column_of
packed-same w v h g e =
    let a : length w < length v → ⊥ = no_longer w v h g e in
    let b : length v < length w → ⊥ = no_longer v w g h (sym e) in
    let n : length w ≡ length v = omega arith in
    ext_get_or 32 w v n (λ i l. columns_same w v h.bytes g.bytes e i (omega (arith, h.short)))
