-- Laws of writes: one after another is one write of both texts, and a buffer written whole is what was written.
-- Assumes nothing.
use Rattle.std.proofs.Common.{◌≡◌, refl, sym, ap, ◌∙◌, Bool, true, false, List, [], ◌∷◌, ◌++◌, append_assoc, append-nil, ℕ, zero, suc, ◌+◌, ◌-◌, ◌<◌, ◌≤◌, min, add-one, arith, ltb, length, take, drop, set, length-append, length-take, length-drop, take-append-drop, drop_of_length-le, take_all, take_at, take-take, drop_at, drop-drop, length-take-le, ltb-true, ltb-false}
use Rattle.std.proofs.Math.Seq.{take-nil, append_snoc}
use borrow.Rule.Slice.PartMut.{put_mid}
use Rattle.std.proofs.lemmas.List.{take_min, take-append-le, set_split}
use Rattle.std.proofs.lemmas.Slice.{put_mid-paste}
use Rattle.columns.specs.Writing.{fitting, laid, Writes}

-- the first k of two texts: those of the first, and as many of the second as are left
take_both : (k : ℕ) (w v : List ℕ) → take k (w ++ v) ≡ take k w ++ take (k - length (take k w)) v
take_both zero w v = refl
take_both (suc k) [] v = let e : suc k - 0 ≡ suc k = omega arith in rw e refl
take_both (suc k) (b ∷ w) v =
    let e : suc k - suc (length (take k w)) ≡ k - length (take k w) = omega arith in
    ap (λ (u : List ℕ). b ∷ u) (take_both k w v) ∙ rw e refl

-- a buffer whose first p bytes are h, written from p on
after_head : (p : ℕ) (v h l m : List ℕ) → m ≡ h ++ drop p l → length h ≡ p → length m ≡ length l
    → laid p v m ≡ h ++ take (length l - p) v ++ drop (p + length (take (length l - p) v)) l
unfolding laid
after_head p v h l m e k n =
    let t : take p m ≡ h = ap (take p) e ∙ take_at h (drop p l) p k in
    let d : drop p m ≡ drop p l = ap (drop p) e ∙ drop_at h (drop p l) p k in
    let s : (j : ℕ) → drop (p + j) m ≡ drop (p + j) l = λ j. sym (drop-drop j p m) ∙ ap (drop j) d ∙ drop-drop j p l in
    rw (n, t, s (length (take (length l - p) v))) refl

module _ (at : ℕ) (w lent : List ℕ) where
  -- what is written fits
  fits : length (fitting at w lent) ≤ length lent - at
  fits = simp length-take (omega arith)

  -- with no room nothing is written
  no_room : length lent ≤ at → fitting at w lent ≡ []
  no_room h = let e : length lent - at ≡ 0 = omega arith in rw e refl

  -- what stands before, and what is written
  head_length : at ≤ length lent → length (take at lent ++ fitting at w lent) ≡ at + length (fitting at w lent)
  head_length h = length-append (take at lent) (fitting at w lent) ∙ ap (λ (k : ℕ). k + length (fitting at w lent)) (length-take-le at lent h)

  laid_none : fitting at w lent ≡ [] → laid at w lent ≡ lent
  unfolding laid
  laid_none e =
      rw e (ap (λ (u : List ℕ). u ++ drop (at + 0) lent) (append-nil (take at lent)) ∙ (let z : at + 0 ≡ at = omega arith in rw z (take-append-drop at lent)))

  -- the buffer's length stays
  laid-length : length (laid at w lent) ≡ length lent
  unfolding laid
  laid-length = go (ltb at (length lent)) refl
    where
      go : (q : Bool) → ltb at (length lent) ≡ q → length (laid at w lent) ≡ length lent
      go true e =
          let h = ltb-true at (length lent) e in
          let k = head_length (omega arith) in
          let m = length-drop (at + length (fitting at w lent)) lent in
          omega (arith, length-append (take at lent ++ fitting at w lent) (drop (at + length (fitting at w lent)) lent), fits)
      go false e = ap length (laid_none (no_room (ltb-false at (length lent) e)))

  -- what a second text finds room for, after the first
  fits_then : (v : List ℕ) → fitting at (w ++ v) lent ≡ fitting at w lent ++ take (length lent - (at + length (fitting at w lent))) v
  fits_then v =
      let e : length lent - (at + length (fitting at w lent)) ≡ length lent - at - length (fitting at w lent) = omega arith in
      rw e (take_both (length lent - at) w v)

module _ (at : ℕ) (w v lent : List ℕ) where
  -- the two as one, where there is room and where there is none
  joined : (p : ℕ) → p ≡ at + length (fitting at w lent) → at ≤ length lent → laid p v (laid at w lent) ≡ laid at (w ++ v) lent
  unfolding laid
  joined p e h =
      let f = fitting at w lent in
      let g = take (length lent - p) v in
      let b : fitting at (w ++ v) lent ≡ f ++ g = rw e (fits_then at w lent v) in
      let n : at + length (f ++ g) ≡ p + length g = omega (arith, length-append f g) in
      after_head p v (take at lent ++ f) lent (laid at w lent) (rw e refl) (head_length at w lent h ∙ sym e) (laid-length at w lent)
      ∙ rw (b, n) (ap (λ (u : List ℕ). u ++ drop (p + length g) lent) (append_assoc (take at lent) f g))

  beside : (p : ℕ) → p ≡ at + length (fitting at w lent) → length lent ≤ at → laid p v (laid at w lent) ≡ laid at (w ++ v) lent
  beside p e h =
      ap (laid p v) (laid_none at w lent (no_room at w lent h))
      ∙ laid_none p v lent (no_room p v lent (omega arith))
      ∙ sym (laid_none at (w ++ v) lent (no_room at (w ++ v) lent h))

  laid_then : (p : ℕ) → p ≡ at + length (fitting at w lent) → laid p v (laid at w lent) ≡ laid at (w ++ v) lent
  laid_then p e = go (ltb at (length lent)) refl
    where
      go : (q : Bool) → ltb at (length lent) ≡ q → laid p v (laid at w lent) ≡ laid at (w ++ v) lent
      go true t = let h = ltb-true at (length lent) t in joined p e (omega arith)
      go false t = beside p e (ltb-false at (length lent) t)

-- a text of which nothing fits
pub writes_empty : (at : ℕ) (w lent : List ℕ) → fitting at w lent ≡ [] → Writes at w lent lent at
writes_empty at w lent n = record { bytes = sym (laid_none at w lent n); next = omega (arith, ap length n) }

-- nothing written
pub writes_none : (at : ℕ) (lent : List ℕ) → Writes at [] lent lent at
writes_none at lent = writes_empty at [] lent (take-nil (length lent - at))

-- with no room nothing is written
pub writes_full : (at : ℕ) (w lent : List ℕ) → length lent ≤ at → Writes at w lent lent at
writes_full at w lent h = writes_empty at w lent (no_room at w lent h)

-- a part of the buffer written over with what fits of a text
pub writes_part : (at k : ℕ) (w lent part : List ℕ) → part ≡ fitting at w lent → k ≡ length part → Writes at w lent (put_mid at k lent part) (at + k)
unfolding laid
writes_part at k w lent part e n =
    record {
      bytes = put_mid-paste at k lent part part k refl refl n ∙ rw (take_all k part (omega arith), n, e) refl;
      next = ap (λ (i : ℕ). at + i) (n ∙ ap length e);
    }

-- the first k bytes of a text, k being as many as fit and as there are
fitting_part : (at k : ℕ) (w lent : List ℕ) → k ≡ min (length lent - at) (length w) → take k w ≡ fitting at w lent
fitting_part at k w lent e = ap (λ (i : ℕ). take i w) e ∙ take_min (length lent - at) w

-- a text copied as far as there is room
pub writes_copied : (at k : ℕ) (w lent part : List ℕ) → k ≡ min (length lent - at) (length w) → part ≡ take k w → Writes at w lent (put_mid at k lent part) (at + k)
writes_copied at k w lent part n e =
    writes_part at k w lent part (e ∙ fitting_part at k w lent n) (sym (ap length e ∙ length-take-le k w (omega arith)))

pub writes_uncopied : (at : ℕ) (w lent : List ℕ) → min (length lent - at) (length w) ≡ 0 → Writes at w lent lent at
writes_uncopied at w lent n = writes_empty at w lent (sym (fitting_part at 0 w lent (sym n)))

-- one text after another
pub writes_then : {at p q : ℕ} {w v a b c : List ℕ} → Writes at w a b p → Writes p v b c q → Writes at (w ++ v) a c q
writes_then {at} {p} {q} {w} {v} {a} {b} {c} f g =
    let n = f.next in
    let l : length b ≡ length a = ap length f.bytes ∙ laid-length at w a in
    record {
      bytes = g.bytes ∙ ap (laid p v) f.bytes ∙ laid_then at w v a p n;
      next = g.next ∙ rw (l, n, fits_then at w a v) (omega (arith, length-append (fitting at w a) (take (length a - (at + length (fitting at w a))) v)));
    }

-- a text may be said in another way, and beyond the room it makes no difference
pub writes_room : {at r : ℕ} {w v lent left : List ℕ} → fitting at w lent ≡ fitting at v lent → Writes at w lent left r → Writes at v lent left r
unfolding laid
writes_room e f = record { bytes = f.bytes ∙ rw e refl; next = f.next ∙ rw e refl }

pub writes_same : {at r : ℕ} {w v lent left : List ℕ} → w ≡ v → Writes at w lent left r → Writes at v lent left r
writes_same e f = rw e at f

module _ {at r : ℕ} {w lent left : List ℕ} (f : Writes at w lent left r) where
  -- the buffer's length stays
  pub writes_length : length left ≡ length lent
  writes_length = ap length f.bytes ∙ laid-length at w lent

  module _ (h : at + length w ≤ length lent) where
    -- a text that there is room for is written whole
    whole : fitting at w lent ≡ w
    whole = take_all (length lent - at) w (omega arith)

    pub writes_next : r ≡ at + length w
    writes_next = f.next ∙ ap (λ (u : List ℕ). at + length u) whole

    -- what stands before the next place: what stood before the first, and the text
    pub writes_text : take r left ≡ take at lent ++ w
    unfolding laid
    writes_text =
        let n : length (take at lent ++ w) ≡ r = length-append (take at lent) w ∙ ap (λ (k : ℕ). k + length w) (length-take-le at lent (omega arith)) ∙ sym writes_next in
        ap (take r) f.bytes ∙ rw whole (take_at (take at lent ++ w) (drop (at + length w) lent) r n)

-- one byte
pub writes_put : (at b : ℕ) (lent : List ℕ) → at < length lent → Writes at (b ∷ []) lent (set lent at b) (at + 1)
unfolding laid
writes_put at b lent h =
    let e : fitting at (b ∷ []) lent ≡ b ∷ [] = take_all (length lent - at) (b ∷ []) (omega arith) in
    record { bytes = rw (e, add-one) (set_split lent at b h ∙ sym (append_snoc (take at lent) b (drop (suc at) lent))); next = rw e refl }

module _ {r : ℕ} {w lent left : List ℕ} (f : Writes 0 w lent left r) where
  -- written from the start: the first columns are the text's
  pub writes_first : (k : ℕ) → k ≤ length w → k ≤ length lent → take k left ≡ take k w
  unfolding laid
  writes_first k h m =
      let z : length lent - 0 ≡ length lent = omega arith in
      let n : k ≤ length (take (length lent) w) = simp length-take (omega arith) in
      ap (take k) f.bytes ∙ rw z (take-append-le k (take (length lent) w) (drop (0 + length (take (length lent) w)) lent) n ∙ take-take k (length lent) w m)

  -- a buffer written whole is the text
  pub writes_whole : length w ≡ length lent → left ≡ w
  writes_whole e =
      let n = writes_length f in
      sym (take_all (length lent) left (omega arith)) ∙ writes_first (length lent) (omega arith) (omega arith) ∙ take_all (length lent) w (omega arith)

  -- the last columns, written over what runs into them
  pub writes_end : {at q : ℕ} {v end : List ℕ} → Writes at v left end q → at ≤ length w → at + length v ≡ length lent → end ≡ take at w ++ v
  unfolding laid
  writes_end {at} {q} {v} {end} g h e =
      let n = writes_length f in
      let b : fitting at v left ≡ v = whole g (omega arith) in
      let d : drop (at + length v) left ≡ [] = drop_of_length-le left {i = at + length v} (omega arith) in
      g.bytes ∙ rw (b, d) (append-nil (take at left ++ v)) ∙ ap (λ (u : List ℕ). u ++ v) (writes_first at h (omega arith))
