-- `M` records: what keeping writes is read again, so are those of eight digits, and nothing else is.
-- Assumes nothing.
use Rattle.std.proofs.Common.{◌≡◌, refl, sym, ap, ◌∙◌, subst, Bool, true, false, cond, ◌&&◌, List, [], ◌∷◌, ◌++◌, append_assoc, ◌↔◌, ℕ, zero, suc, ◌+◌, ◌-◌, ◌*◌, ◌/◌, ◌%◌, ◌^◌, ◌<◌, ◌≤◌, mul_assoc, mul-le-mul_right, arith, ltb, pow_mono, length, take, drop, length-append, take_at, drop_at, drop-drop, get_or, get_or-drop, eqb, ne_eqb, ltb-true, ltb-false, lt-ltb, le-leb}
use Rattle.std.proofs.Math.Option.{none, some, none-ne-some, some-injective}
use Rattle.std.proofs.Math.Nat.{pow-succ'}
use Rattle.std.proofs.Math.Seq.{take-nil}
use Rattle.std.proofs.lemmas.Bool.{lt-leb}
use Rattle.common.specs.Limits.{record_size, name_size, max_patterns}
use Rattle.lexer.specs.Class.{within}
use Rattle.lexer.specs.Words.{same}
use Rattle.lexer.proofs.KindLaws.{same_true}
use Rattle.lexer.proofs.SameLaws.{same_refl}
use Rattle.names.proofs.NameLaws.{within_true}
use Rattle.frame.specs.Record.{newline}
use Rattle.columns.specs.Texts.{spaces, padded}
use Rattle.columns.proofs.PaddedLaws.{padded-length, padded_cons, padded-after, padded-short}
use Rattle.render.specs.Records.{text_record}
use Rattle.render.proofs.ReadBack.{record_length}
use Rattle.book.specs.Names.{Name}
use Rattle.book.specs.Images.{mark_byte, digits, hex_digit, hex_of, mark_record}
use Rattle.book.specs.Restoring.{is_line, hex_value, value_from, marks_in, marks_end, read_mark, short_digits, digits_of, record_marks}

-- DIGITS

-- a digit written is read as its value
hex_back : (d : ℕ) → d < 16 → hex_value (hex_digit d) ≡ d
unfolding hex_digit hex_value
hex_back d h = go (ltb d 10) refl
  where
    go : (q : Bool) → ltb d 10 ≡ q → hex_value (cond q (48 + d) (55 + d)) ≡ d
    go true e = let l = ltb-true d 10 e in rw (le-leb 48 (48 + d) (omega arith), le-leb (48 + d) 57 (omega arith)) (omega arith)
    go false e =
        let l = ltb-false d 10 e in
        rw (le-leb 48 (55 + d) (omega arith), lt-leb (55 + d) 57 (omega arith), le-leb 65 (55 + d) (omega arith), le-leb (55 + d) 70 (omega arith)) (omega arith)

-- whatever the byte, its value is that of a digit
pub hex_below : (b : ℕ) → hex_value b < 16
unfolding hex_value
hex_below b = go (within 48 57 b) (within 65 70 b) refl refl
  where
    go : (p q : Bool) → within 48 57 b ≡ p → within 65 70 b ≡ q → cond p (b - 48) (cond q (b - 55) 0) < 16
    go true q e f = let l = within_true 48 57 b e in omega (arith, l.1)
    go false true e f = let l = within_true 65 70 b f in omega (arith, l.1)
    go false false e f = omega arith

-- one digit more
pub value-end : (v : ℕ) (s : List ℕ) (b : ℕ) → value_from v (s ++ (b ∷ [])) ≡ value_from v s * 16 + hex_value b
value-end v [] b = refl
value-end v (x ∷ s) b = value-end (v * 16 + hex_value x) s b

-- k digits are k bytes
pub hex_length : (k m : ℕ) → length (hex_of k m) ≡ k
unfolding hex_of
hex_length zero m = refl
hex_length (suc k) m = let n = length-append (hex_of k (m / 16)) (hex_digit (m % 16) ∷ []) in let h = hex_length k (m / 16) in omega arith

-- k digits say a number below 16 ^ k
hex_value_lem : (k m : ℕ) → m < 16 ^ k → value_from 0 (hex_of k m) ≡ m
unfolding hex_of
hex_value_lem zero m h = omega arith
hex_value_lem (suc k) m h =
    value-end 0 (hex_of k (m / 16)) (hex_digit (m % 16))
    ∙ (let e = hex_value_lem k (m / 16) (omega arith) in let f = hex_back (m % 16) (omega arith) in omega arith)

-- one column more has room for sixteen times as many numbers
room_more : (k v : ℕ) → suc v * 16 ^ suc k ≡ suc v * 16 * 16 ^ k
room_more k v = ap (λ (x : ℕ). suc v * x) (pow-succ' 16 k) ∙ sym (mul_assoc (suc v) 16 (16 ^ k))

-- and no other number, whatever the bytes
value-below : (k v : ℕ) (s : List ℕ) → value_from v (take k s) < suc v * 16 ^ k
value-below zero v s = omega arith
value-below (suc k) v [] =
    let h : v < suc v * 16 ^ k = subst (λ (l : List ℕ). value_from v l < suc v * 16 ^ k) (take-nil k) (value-below k v []) in
    let e = room_more k v in
    omega arith
value-below (suc k) v (b ∷ s) =
    let h = value-below k (v * 16 + hex_value b) s in
    let d = hex_below b in
    let z : suc (v * 16 + hex_value b) * 16 ^ k ≤ suc v * 16 * 16 ^ k = mul-le-mul_right (16 ^ k) (omega arith) in
    let e = room_more k v in
    omega arith

-- the number in k columns, whatever stands in them
pub marks-below : (k : ℕ) (s : List ℕ) → marks_in k s < 16 ^ k
unfolding marks_in
marks-below k s = let h = value-below k 0 (drop 10 s) in omega arith

-- A RECORD

-- its columns
mark_columns : (k : ℕ) (w : Name) (m : ℕ) → k ≤ 117 → mark_record k w m ≡ mark_byte ∷ ((padded name_size w ++ (32 ∷ (hex_of k m ++ spaces (117 - k)))) ++ (newline ∷ []))
unfolding mark_record text_record
mark_columns k w m h =
    let l = hex_length k m in
    ap (λ (x : List ℕ). mark_byte ∷ (x ++ (newline ∷ [])))
    (padded-after 126 118 (padded name_size w) (32 ∷ hex_of k m) (let q = padded-length name_size w in omega arith)
    ∙ ap (λ (x : List ℕ). padded name_size w ++ x)
    (padded_cons 117 32 (hex_of k m) ∙ ap (λ (x : List ℕ). 32 ∷ x) (padded-short 117 (hex_of k m) (omega arith) ∙ ap (λ (j : ℕ). hex_of k m ++ spaces (117 - j)) l)))

-- "records of 128 bytes again"
pub mark-length : (k : ℕ) (w : Name) (m : ℕ) → length (mark_record k w m) ≡ record_size
unfolding mark_record
mark-length k w m = record_length mark_byte (padded name_size w ++ (32 ∷ hex_of k m))

-- "a record of byte `M`": no line
pub mark_no_line : (k : ℕ) (w : Name) (m : ℕ) → is_line (mark_record k w m) ≡ false
unfolding mark_record text_record
mark_no_line k w m = refl

-- from column 10 on: the digits, and spaces after them
pub mark_digits : (k : ℕ) (w : Name) (m : ℕ) → k ≤ 117 → drop 10 (mark_record k w m) ≡ hex_of k m ++ (spaces (117 - k) ++ (newline ∷ []))
mark_digits k w m h =
    let rest : List ℕ = hex_of k m ++ spaces (117 - k) in
    ap (drop 10) (mark_columns k w m h)
    ∙ ap (drop 9) (append_assoc (padded name_size w) (32 ∷ rest) (newline ∷ []))
    ∙ sym (drop-drop 1 8 (padded name_size w ++ (32 ∷ (rest ++ (newline ∷ [])))))
    ∙ ap (drop 1) (drop_at (padded name_size w) (32 ∷ (rest ++ (newline ∷ []))) 8 (padded-length name_size w))
    ∙ append_assoc (hex_of k m) (spaces (117 - k)) (newline ∷ [])

-- the digits are where they are looked for
pub marks_in_lem : (k : ℕ) (w : Name) (m : ℕ) → k ≤ 117 → m < 16 ^ k → marks_in k (mark_record k w m) ≡ m
unfolding marks_in
marks_in_lem k w m h l =
    ap (λ (s : List ℕ). value_from 0 (take k s)) (mark_digits k w m h)
    ∙ ap (value_from 0) (take_at (hex_of k m) (spaces (117 - k) ++ (newline ∷ [])) k (hex_length k m))
    ∙ hex_value_lem k m l

-- READING

-- a record s of k digits for a rule of that name whose past has n patterns gives the marks m: every byte is as it is written in k digits, which say all marks, "with marks
-- its past has"
pub record MarkSaid (k : ℕ) (w : Name) (n : ℕ) (s : List ℕ) (m : ℕ) : Type 0 where
  pub bytes : s ≡ mark_record k w m
  pub room : m < 16 ^ k
  pub within : m < marks_end n

-- what is read is so
pub mark-said : (k : ℕ) (w : Name) (n : ℕ) (s : List ℕ) (m : ℕ) → read_mark k w n s ≡ some m → MarkSaid k w n s m
unfolding read_mark
mark-said k w n s m = go (same s (mark_record k w (marks_in k s))) (ltb (marks_in k s) (marks_end n)) refl refl
  where
    go : (a b : Bool) → same s (mark_record k w (marks_in k s)) ≡ a → ltb (marks_in k s) (marks_end n) ≡ b → cond (a && b) (some (marks_in k s)) none ≡ some m → MarkSaid k w n s m
    go true true p q e =
        let z : marks_in k s ≡ m = some-injective (marks_in k s) m e in
        record {
          bytes = same_true s (mark_record k w (marks_in k s)) p ∙ ap (mark_record k w) z;
          room = rw (← z) (marks-below k s);
          within = rw (← z) (ltb-true (marks_in k s) (marks_end n) q);
        }
    go true false p q e = absurd (none-ne-some m e)
    go false b p q e = absurd (none-ne-some m e)

-- An `M` record of k digits is read exactly where it is the one that is written for marks that the past has.
pub read_mark_exactly : (k : ℕ) (w : Name) (n : ℕ) (s : List ℕ) (m : ℕ) → k ≤ 117 → (read_mark k w n s ≡ some m) ↔ MarkSaid k w n s m
unfolding read_mark
read_mark_exactly k w n s m h = (mark-said k w n s m, back)
  where
    back : MarkSaid k w n s m → read_mark k w n s ≡ some m
    back d =
        let q : marks_in k s ≡ m = ap (marks_in k) d.bytes ∙ marks_in_lem k w m h d.room in
        rw q (rw (lt-ltb m (marks_end n) d.within, ← d.bytes, same_refl s) refl)

-- EIGHT DIGITS OR SIXTEEN

-- no digit is a space
digit-no-space : (d : ℕ) → eqb (hex_digit d) 32 ≡ false
unfolding hex_digit
digit-no-space d = go (ltb d 10)
  where
    go : (q : Bool) → eqb (cond q (48 + d) (55 + d)) 32 ≡ false
    go true = ne_eqb (48 + d) 32 (λ e. omega arith)
    go false = ne_eqb (55 + d) 32 (λ e. omega arith)

-- the byte of column 18 is the ninth of those from column 10 on
column_18 : (s : List ℕ) → get_or s 18 0 ≡ get_or (drop 10 s) 8 0
column_18 s = sym (get_or-drop 10 s 8 0)

-- which kind a record is shows in column 18
digits-sixteen : (w : Name) (m : ℕ) → digits_of (mark_record digits w m) ≡ digits
unfolding digits_of hex_of
digits-sixteen w m =
    let c : get_or (mark_record digits w m) 18 0 ≡ get_or (hex_of digits m ++ (spaces 101 ++ (newline ∷ []))) 8 0 =
    column_18 (mark_record digits w m) ∙ ap (λ (s : List ℕ). get_or s 8 0) (mark_digits digits w m (omega arith)) in
    ap (λ (q : Bool). cond q short_digits digits) (ap (λ (b : ℕ). eqb b 32) c ∙ digit-no-space _)

digits-eight : (w : Name) (m : ℕ) → digits_of (mark_record short_digits w m) ≡ short_digits
unfolding digits_of hex_of
digits-eight w m =
    let c : get_or (mark_record short_digits w m) 18 0 ≡ 32 =
    column_18 (mark_record short_digits w m) ∙ ap (λ (s : List ℕ). get_or s 8 0) (mark_digits short_digits w m (omega arith)) in
    ap (λ (b : ℕ). cond (eqb b 32) short_digits digits) c

-- a record for a rule of that name whose past has n patterns gives the marks m, in either kind
pub data RecordSaid (w : Name) (n : ℕ) (s : List ℕ) (m : ℕ) : Type 0 where
  said_sixteen : MarkSaid digits w n s m → RecordSaid w n s m
  said_eight : MarkSaid short_digits w n s m → RecordSaid w n s m

-- the marks are among those that the past has
pub said-within : {w : Name} {n : ℕ} {s : List ℕ} {m : ℕ} → RecordSaid w n s m → m < marks_end n
said-within (said_sixteen d) = d.within
said-within (said_eight d) = d.within

-- what is read is so
pub record-said : (w : Name) (n : ℕ) (s : List ℕ) (m : ℕ) → record_marks w n s ≡ some m → RecordSaid w n s m
unfolding record_marks digits_of
record-said w n s m = go (eqb (get_or s 18 0) 32)
  where
    go : (q : Bool) → read_mark (cond q short_digits digits) w n s ≡ some m → RecordSaid w n s m
    go true e = said_eight (mark-said short_digits w n s m e)
    go false e = said_sixteen (mark-said digits w n s m e)

-- An `M` record is read exactly where it is the one of sixteen digits that keeping writes, or the one of eight with "its higher marks clear".
pub record_marks_exactly : (w : Name) (n : ℕ) (s : List ℕ) (m : ℕ) → (record_marks w n s ≡ some m) ↔ RecordSaid w n s m
unfolding record_marks
record_marks_exactly w n s m = (record-said w n s m, back)
  where
    read : (k : ℕ) → k ≤ 117 → digits_of (mark_record k w m) ≡ k → MarkSaid k w n s m → read_mark (digits_of s) w n s ≡ some m
    read k h e d = ap (λ (j : ℕ). read_mark j w n s) (ap digits_of d.bytes ∙ e) ∙ (read_mark_exactly k w n s m h).1 d

    back : RecordSaid w n s m → read_mark (digits_of s) w n s ≡ some m
    back (said_sixteen d) = read digits (omega arith) (digits-sixteen w m) d
    back (said_eight d) = read short_digits (omega arith) (digits-eight w m) d

-- with 63 patterns at most, sixteen digits have room for all marks
pub digits_room : (n : ℕ) → n ≤ max_patterns → marks_end n ≤ 16 ^ digits
digits_room n h = let q : suc n ≤ 64 = omega arith in pow_mono q
