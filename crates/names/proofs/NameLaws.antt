-- Names are told apart by their packed numbers.
-- Assumes nothing.
use Rattle.std.proofs.Common.{◌≡◌, refl, Bool, true, false, cond, List, [], ◌∷◌, ℕ, zero, suc, ◌-◌, ◌<◌, ◌≤◌, arith, leb, eqb, length, get_or, eqb-true, leb-true}
use Rattle.std.proofs.lemmas.Bool.{eqb-false}
use Rattle.lexer.specs.Class.{class_of, wordy, within, among, marks}
use Rattle.lexer.specs.Words.{kind_of, name_like, digit_kind, name_k, reserved}
use Rattle.common.proofs.Bools.{and_left, and_right}
use Rattle.lexer.proofs.KindLaws.{place_low}
use Rattle.lexer.specs.Class.{Wordy}
use Rattle.names.specs.Name.{column_of, packed}
use Rattle.names.specs.Shape.{Packable, NameShape}
use Rattle.names.proofs.ColumnLaws.{packed-same}

-- a byte of a range is between its ends
pub within_true : (lo hi b : ℕ) → within lo hi b ≡ true → (lo ≤ b) × (b ≤ hi)
within_true lo hi b e = (leb-true lo b (and_left (leb lo b) (leb b hi) e), leb-true b hi (and_right (leb lo b) (leb b hi) e))

-- a byte of a word is a byte, and no space
wordy-byte : (b : ℕ) → wordy b ≡ true → (b < 256) × (b ≡ 32 → ⊥)
unfolding wordy class_of
wordy-byte b e = go (eqb b 32) (within 97 122 b) (within 48 57 b) (eqb b 45) (among b marks) (within 33 126 b) refl refl refl refl e
  where
    go : (p q r s t u : Bool) → eqb b 32 ≡ p → within 97 122 b ≡ q → within 48 57 b ≡ r → eqb b 45 ≡ s
        → within 2 4 (cond p 1 (cond q 2 (cond r 3 (cond s 4 (cond t 5 (cond u 6 0)))))) ≡ true → (b < 256) × (b ≡ 32 → ⊥)
    go true q r s t u e₁ e₂ e₃ e₄ e = let z : ◌≡◌ {A = ℕ} 0 1 = cc in absurd (omega arith)
    go false true r s t u e₁ e₂ e₃ e₄ e = let l = within_true 97 122 b e₂ in (omega (arith, l.1), eqb-false b 32 e₁)
    go false false true s t u e₁ e₂ e₃ e₄ e = let l = within_true 48 57 b e₃ in (omega (arith, l.1), eqb-false b 32 e₁)
    go false false false true t u e₁ e₂ e₃ e₄ e = (omega (arith, eqb-true b 45 e₄), eqb-false b 32 e₁)
    go false false false false true u e₁ e₂ e₃ e₄ e = let z : ◌≡◌ {A = ℕ} 0 1 = cc in absurd (omega arith)
    go false false false false false true e₁ e₂ e₃ e₄ e = let z : ◌≡◌ {A = ℕ} 0 1 = cc in absurd (omega arith)
    go false false false false false false e₁ e₂ e₃ e₄ e = let z : ◌≡◌ {A = ℕ} 0 1 = cc in absurd (omega arith)

-- the columns of a word are bytes, and none but those after its end is a space
pub wordy-bytes : (w : List ℕ) → Wordy w → (i : ℕ) → column_of w i < 256
unfolding column_of
wordy-bytes [] h i = omega arith
wordy-bytes (b ∷ w) h zero = (wordy-byte b h.0).0
wordy-bytes (b ∷ w) h (suc i) = wordy-bytes w h.1 i

pub wordy-spaceless : (w : List ℕ) → Wordy w → (i : ℕ) → i < length w → column_of w i ≡ 32 → ⊥
unfolding column_of
wordy-spaceless [] h i l e = omega arith
wordy-spaceless (b ∷ w) h zero l e = (wordy-byte b h.0).1 e
wordy-spaceless (b ∷ w) h (suc i) l e = wordy-spaceless w h.1 i (omega arith) e

-- a digit is not of a name's kind
digit_no_name : (w : List ℕ) → digit_kind w ≡ 0 → ⊥
unfolding digit_kind
digit_no_name w e = go (eqb (length w) 1) (within 48 57 (get_or w 0 0)) refl e
  where
    go : (a b : Bool) → within 48 57 (get_or w 0 0) ≡ b → cond a (cond b (get_or w 0 0 - 36) 11) 11 ≡ 0 → ⊥
    go true true q e = let l = within_true 48 57 (get_or w 0 0) q in omega (arith, l.0)
    go true false q e = omega arith
    go false b q e = omega arith

-- a word of a name's kind has a name's length and begins with a letter
pub name_shape : (w : List ℕ) → kind_of w ≡ name_k → NameShape w
unfolding kind_of name_like
name_shape w e = go (name_like w) refl (place_low 1 reserved w (cond (name_like w) 0 (digit_kind w)) 0 (omega arith) e)
  where
    go : (q : Bool) → name_like w ≡ q → cond q 0 (digit_kind w) ≡ 0 → NameShape w
    go true h e =
        let t : (within 1 8 (length w) ≡ true) × (eqb (class_of (get_or w 0 0)) 2 ≡ true) = (and_left (within 1 8 (length w)) (eqb (class_of (get_or w 0 0)) 2) h, and_right (within 1 8 (length w)) (eqb (class_of (get_or w 0 0)) 2) h) in
        let l = within_true 1 8 (length w) t.0 in
        record { least = l.0; most = l.1; letter = eqb-true (class_of (get_or w 0 0)) 2 t.1 }
    go false h e = absurd (digit_no_name w e)

-- the eight columns show a name whole
pub name_packable : (w : List ℕ) → kind_of w ≡ name_k → Wordy w → Packable w
name_packable w k h = record { bytes = record { byte = wordy-bytes w h }; short = (name_shape w k).most; spaceless = wordy-spaceless w h }

-- two names with one packed number are one name
pub name-same : (w v : List ℕ) → kind_of w ≡ name_k → Wordy w → kind_of v ≡ name_k → Wordy v → packed w ≡ packed v → w ≡ v
name-same w v k h k₂ h₂ e = packed-same w v (name_packable w k h) (name_packable v k₂ h₂) e
