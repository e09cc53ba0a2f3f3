-- Laws of the text of a record, and of the classes of its bytes.
-- Assumes nothing.
use Rattle.std.proofs.Common.{min, ◌≡◌, refl, ap, sym, ◌∙◌, true, false, List, [], ◌∷◌, ◌++◌, ℕ, zero, suc, ◌+◌, ◌<◌, ◌≤◌, arith, length, take, drop, get_or, length-take, length-drop, drop_of_length-le, get_or-take, get_or-drop}
use Rattle.std.proofs.Math.Seq.{split_at}
use Rattle.std.proofs.lemmas.List.{take_min}
use Rattle.std.proofs.Math.Nat.{min_comm}
use Rattle.lexer.specs.Class.{class_of, all_classed}
use Rattle.lexer.proofs.ClassedLaws.{classed-each, each-classed, classless-some}
use Rattle.frame.specs.Text.{text_of}

-- a part cut at 126 bytes, or at its end where it is shorter
pub text_cut : (s : List ℕ) → take (min (length s) 126) s ≡ take 126 s
text_cut s = rw (min_comm (length s) 126) (take_min 126 s)

parts : (s : List ℕ) → length s ≡ 128 → s ≡ get_or s 0 0 ∷ (text_of s ++ (get_or s 127 0 ∷ []))
unfolding text_of
parts [] n = absurd (omega arith)
parts (b ∷ t) n =
    let m : length t ≤ 127 = omega arith in
    let q : drop 127 t ≡ [] = drop_of_length-le t m in
    ap (λ (l : List ℕ). b ∷ l) (split_at t 126 0 (omega arith) ∙ ap (λ (l : List ℕ). take 126 t ++ (get_or t 126 0 ∷ l)) q)

-- the text of a record
module _ (s : List ℕ) (n : length s ≡ 128) where
  -- it has 126 bytes
  pub text-length : length (text_of s) ≡ 126
  unfolding text_of
  text-length = simp (length-take, length-drop) (omega arith)

  -- its byte i is byte i + 1 of the record
  pub text-byte : (i : ℕ) → i < 126 → get_or (text_of s) i 0 ≡ get_or s (suc i) 0
  unfolding text_of
  text-byte i l = let q : 1 + i ≡ suc i = omega arith in rw (get_or-take, get_or-drop, q) refl

  -- no text byte of class 0, said of the record's bytes 1 to 126
  pub text-classed : all_classed (text_of s) ≡ true → (i : ℕ) → 1 ≤ i → i ≤ 126 → class_of (get_or s i 0) ≡ 0 → ⊥
  text-classed h zero l m e = omega arith
  text-classed h (suc i) l m e =
      let k : i < 126 = omega arith in
      classed-each (text_of s) h i (omega (arith, text-length)) (ap class_of (text-byte i k) ∙ e)

  pub classed-text : ((i : ℕ) → 1 ≤ i → i ≤ 126 → class_of (get_or s i 0) ≡ 0 → ⊥) → all_classed (text_of s) ≡ true
  classed-text h =
      each-classed (text_of s) (λ i l e.
      let k : i < 126 = omega (arith, text-length) in
      h (suc i) (omega arith) (omega arith) (ap class_of (sym (text-byte i k)) ∙ e))

  -- a text byte of class 0 is one of the record's bytes 1 to 126
  pub text-classless : all_classed (text_of s) ≡ false → (i : ℕ) × (1 ≤ i) × (i ≤ 126) × (class_of (get_or s i 0) ≡ 0)
  text-classless h =
      let r = classless-some (text_of s) h in
      let k : r.0 < 126 = omega (arith, r.1, text-length) in
      (suc r.0, omega arith, k, ap class_of (sym (text-byte r.0 k)) ∙ r.2)

  -- a record is its first byte, its text and its last byte
  pub record_parts : s ≡ get_or s 0 0 ∷ (text_of s ++ (get_or s 127 0 ∷ []))
  record_parts = parts s n
