-- Laws of the record of marks: what is written is that record, which numbers are marks of a past, and what is read of a record.
-- Assumes nothing.
use Rattle.std.proofs.Common.{◌≡◌, refl, sym, ap, ◌∙◌, Bool, true, false, not, Option, cond, ◌&&◌, List, [], ◌∷◌, ◌++◌, append_assoc, ℕ, suc, ◌-◌, ◌<◌, ◌≤◌, arith, ltb, eqb, pow_mono, length, set, lt-ltb, bytes_eq}
use Rattle.std.specs.Bool.{then_some}
use Rattle.std.proofs.Math.Option.{none, some}
use Rattle.lexer.specs.Words.{same}
use Rattle.frame.specs.Record.{newline}
use Rattle.columns.specs.Texts.{spaces, padded}
use Rattle.columns.specs.Writing.{Writes}
use Rattle.columns.proofs.WriteLaws.{writes_then, writes_same, writes_next}
use Rattle.columns.proofs.PaddedLaws.{padded-more}
use Rattle.columns.proofs.BlankLaws.{writes_padded}
use Rattle.render.proofs.RecordLaws.{record_written}
use Rattle.book.specs.Images.{hex_of, mark_record}
use Rattle.book.specs.Restoring.{marks_in, marks_end, read_mark, digits_of, record_marks}
use Rattle.snapshot.specs.Reading.{given}

-- "a record of byte `M`, the name in eight columns, a space, the marks as .. capital hexadecimal digits .., spaces, newline": from its parts
pub mark_written : {p q r t : ℕ} {w a b c d : List ℕ} (k m : ℕ) → length w ≤ 8 → Writes 0 (77 ∷ []) (spaces 128) a p → Writes p w a b q → Writes q (spaces (10 - q)) b c r
    → Writes r (hex_of k m) c d t → set d 127 newline ≡ mark_record k w m
unfolding mark_record
mark_written {p} {w = w} k m small f g h i =
    let n : p ≡ 1 = writes_next f (omega arith) in
    let e : 10 - p ≡ 9 = omega arith in
    let s : padded (10 - p) w ++ hex_of k m ≡ padded 8 w ++ (32 ∷ hex_of k m) =
    ap (λ (j : ℕ). padded j w ++ hex_of k m) e ∙ ap (λ (v : List ℕ). v ++ hex_of k m) (padded-more 8 w small) ∙ append_assoc (padded 8 w) (32 ∷ []) (hex_of k m) in
    record_written (writes_same (ap (λ (v : List ℕ). 77 ∷ v) s) (writes_then f (writes_then (writes_padded 10 (omega arith) g h) i)))

-- from 63 patterns on every number of 64 bits is of marks that the past has
pub within_all : (m n : ℕ) → m < 18446744073709551616 → 63 ≤ n → true ≡ ltb m (marks_end n)
within_all m n h k =
    let q : 64 ≤ suc n = omega arith in
    sym (lt-ltb m (marks_end n) (omega (arith, pow_mono q)))

-- the comparison of two lists is `==`
pub same-bytes_eq : (s k : List ℕ) → same s k ≡ bytes_eq s k
unfolding same
same-bytes_eq [] [] = refl
same-bytes_eq [] (y ∷ k) = refl
same-bytes_eq (x ∷ s) [] = refl
same-bytes_eq (x ∷ s) (y ∷ k) = ap (λ (q : Bool). eqb x y && q) (same-bytes_eq s k)

-- what `!=` says is what `==` does
not_same : (p q : Bool) → not p ≡ not q → p ≡ q
not_same true true e = refl
not_same false false e = refl
not_same true false e = sym e
not_same false true e = sym e

module _ (bytes w written : List ℕ) (k n m : ℕ) (d : k ≡ digits_of bytes) (e : m ≡ marks_in (digits_of bytes) bytes) (r : written ≡ mark_record k w m) where
  -- what is read of a record by what is written for its marks
  read-is : (eq ok : Bool) → not eq ≡ not (bytes_eq bytes written) → ok ≡ ltb m (marks_end n) → record_marks w n bytes ≡ cond (eq && ok) (some m) none
  unfolding read_mark record_marks
  read-is eq ok s l =
      rw (← e, same-bytes_eq bytes (mark_record (digits_of bytes) w m), ← d, ← r, ← not_same eq (bytes_eq bytes written) s, ← l) refl

  -- another record
  pub read_other : not (bytes_eq bytes written) ≡ true → none ≡ record_marks w n bytes
  read_other s = sym (read-is false (ltb m (marks_end n)) (sym s) refl)

  -- the one written
  pub read_same : not (bytes_eq bytes written) ≡ false → (ok : Bool) → ok ≡ ltb m (marks_end n) → (o : Option ℕ) → o ≡ then_some ok m → given o ≡ record_marks w n bytes
  read_same s true k o h = rw h (sym (read-is true true (sym s) k))
  read_same s false k o h = rw h (sym (read-is true false (sym s) k))
