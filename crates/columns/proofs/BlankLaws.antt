-- Laws of spaces written up to a column.
-- Assumes nothing.
use Rattle.std.proofs.Common.{◌≡◌, refl, sym, ap, ◌∙◌, Bool, true, false, List, [], ◌∷◌, ◌++◌, ℕ, ◌+◌, ◌-◌, ◌<◌, ◌≤◌, min, arith, leb, length, length-append, leb-true, leb-false}
use borrow.Rule.Slice.PartMut.{put_mid}
use Rattle.std.proofs.lemmas.List.{take_min, length-replicate, take-append-le}
use Rattle.columns.specs.Texts.{spaces, padded, opening_of, front_of}
use Rattle.columns.specs.Writing.{fitting, Writes}
use Rattle.columns.proofs.PaddedLaws.{take-spaces, padded-short, padded_cut, padded-after, padded-more}
use Rattle.columns.proofs.WriteLaws.{writes_empty, writes_part, writes_then, writes_room, writes_same, writes_next, writes_end}

-- the spaces that fit
fitting_spaces : (at m k : ℕ) (lent : List ℕ) → k ≡ min (length lent - at) m → spaces k ≡ fitting at (spaces m) lent
fitting_spaces at m k lent e =
    let q : min (length lent - at) (length (spaces m)) ≡ k = omega (arith, length-replicate {A = ℕ} m 32) in
    sym (sym (take_min (length lent - at) (spaces m)) ∙ rw q (take-spaces k m (omega arith)))

-- spaces up to e, the lesser of a column and the end of the buffer
module _ (at to e : ℕ) (lent : List ℕ) (h : e ≡ min to (length lent)) where
  pub writes_spaces : (part : List ℕ) → at < e → part ≡ spaces (e - at) → Writes at (spaces (to - at)) lent (put_mid at (e - at) lent part) e
  writes_spaces part l f =
      let n : at + (e - at) ≡ e = omega arith in
      rw n at (writes_part at (e - at) (spaces (to - at)) lent part (f ∙ fitting_spaces at (to - at) (e - at) lent (omega arith)) (sym (ap length f ∙ length-replicate {A = ℕ} (e - at) 32)))

  -- and none where that lies before the place
  pub writes_no_spaces : e ≤ at → Writes at (spaces (to - at)) lent lent at
  writes_no_spaces l = writes_empty at (spaces (to - at)) lent (sym (fitting_spaces at (to - at) 0 lent (omega arith)))

-- a text and spaces after it up to a column
pub writes_blank : {at p q : ℕ} {w a b c : List ℕ} (to : ℕ) → Writes at w a b p → Writes p (spaces (to - p)) b c q → Writes at (w ++ spaces (to - at - length w)) a c q
writes_blank {at} {p} {q} {w} {a} {b} {c} to f g = writes_room (go (leb (at + length w) (length a)) refl) (writes_then f g)
  where
    go : (t : Bool) → leb (at + length w) (length a) ≡ t → fitting at (w ++ spaces (to - p)) a ≡ fitting at (w ++ spaces (to - at - length w)) a
    go true e =
        let h = leb-true (at + length w) (length a) e in
        let n = writes_next f h in
        let m : to - p ≡ to - at - length w = omega arith in
        rw m refl
    go false e =
        let h = leb-false (at + length w) (length a) e in
        take-append-le (length a - at) w (spaces (to - p)) (omega arith) ∙ sym (take-append-le (length a - at) w (spaces (to - at - length w)) (omega arith))

-- the same, where the text ends before the column: it is padded
pub writes_padded : {at p q : ℕ} {w a b c : List ℕ} (to : ℕ) → length w ≤ to - at → Writes at w a b p → Writes p (spaces (to - p)) b c q → Writes at (padded (to - at) w) a c q
writes_padded {at} {w = w} to h f g = writes_same (sym (padded-short (to - at) w h)) (writes_blank to f g)

-- a whole line: a text of any length padded up to the last column, and a byte there
pub writes_closed : {p q r : ℕ} {w lent a b left : List ℕ} (to last : ℕ) → length lent ≡ to + 1
    → Writes 0 w lent a p → Writes p (spaces (to - p)) a b q → Writes to (last ∷ []) b left r → left ≡ padded to w ++ (last ∷ [])
writes_closed {w = w} to last e f g k =
    let z : to - 0 ≡ to = omega arith in
    let n = length-append w (spaces (to - 0 - length w)) in
    let m = length-replicate {A = ℕ} (to - 0 - length w) 32 in
    writes_end (writes_blank to f g) k (omega arith) (omega arith) ∙ rw z (ap (λ (v : List ℕ). v ++ (last ∷ [])) (padded_cut to w))

-- columns 0 to 13
pub writes_front : {p q r : ℕ} {w a b c d : List ℕ} (letter n : ℕ) → length w ≤ 8
    → Writes 0 (opening_of letter n) a b p → Writes p w b c q → Writes q (spaces (14 - q)) c d r → Writes 0 (front_of letter n w) a d r
writes_front {w = w} letter n h f g k =
    writes_same (padded-after 14 9 (opening_of letter n) w (omega arith) ∙ ap (λ (v : List ℕ). opening_of letter n ++ v) (padded-more 8 w h)) (writes_padded 14 (omega arith) (writes_then f g) k)
