-- A lent buffer answered part by part: what is answered stands in front, what is not is as it was lent.
-- Assumes nothing.
use Rattle.std.proofs.Common.{◌≡◌, refl, sym, ap, ap₂, ◌∙◌, subst, List, [], ◌∷◌, ◌++◌, append_assoc, append-nil, ℕ, suc, ◌+◌, ◌-◌, ◌≤◌, ◌<◌, arith, length, take, drop, get_or, set, length-append, length-drop, drop_of_length-le, drop-drop, drop-cons}
use Rattle.std.proofs.Math.Seq.{drop-append_seam, take-append_seam, set-append_seam}
use borrow.Rule.Slice.PartMut.{put_mid}

-- the buffer b, with the answers `done` in its first `to` bytes
pub record Filled (b done left : List ℕ) (to : ℕ) : Type 0 where
  pub bytes : left ≡ done ++ drop to b
  pub wrote : length done ≡ to

pub filled_none : (b : List ℕ) → Filled b [] b 0
filled_none b = record { bytes = refl; wrote = refl }

module _ (b done left : List ℕ) (to : ℕ) (p : Filled b done left to) where
  rest-lent : drop to left ≡ drop to b
  rest-lent = ap (drop to) p.bytes ∙ subst (λ (n : ℕ). drop n (done ++ drop to b) ≡ drop to b) p.wrote (drop-append_seam done (drop to b))

  -- the next part is as it was lent
  pub part_lent : (w : ℕ) → take w (drop to left) ≡ take w (drop to b)
  part_lent w = ap (take w) rest-lent

  -- the buffer keeps its length
  pub same_room : to ≤ length b → length left ≡ length b
  same_room fits =
      let e : length left ≡ to + (length b - to) = ap length p.bytes ∙ length-append done (drop to b) ∙ ap₂ (λ (i j : ℕ). i + j) p.wrote (length-drop to b) in
      omega (arith, e, fits)

  -- one part more is answered
  pub filled_more : (w : ℕ) (y : List ℕ) → length y ≡ w → Filled b (done ++ y) (put_mid to w left y) (to + w)
  filled_more w y sized =
      let front : take to left ≡ done = ap (take to) p.bytes ∙ subst (λ (i : ℕ). take i (done ++ drop to b) ≡ done) p.wrote (take-append_seam done (drop to b)) in
      let back : drop w (drop to left) ≡ drop (to + w) b = ap (drop w) rest-lent ∙ drop-drop w to b in
      record {
        bytes = ap₂ (λ (u v : List ℕ). u ++ (y ++ v)) front back ∙ sym (append_assoc done y (drop (to + w) b));
        wrote = length-append done y ∙ ap₂ (λ (i j : ℕ). i + j) p.wrote sized;
      }

  -- one element more, set
  pub filled-set : (a : ℕ) → to < length b → Filled b (done ++ (a ∷ [])) (set left to a) (to + 1)
  filled-set a more =
      let e : left ≡ done ++ (get_or b to 0 ∷ drop (suc to) b) = p.bytes ∙ ap (λ (v : List ℕ). done ++ v) (drop-cons b to 0 more) in
      let one : suc to ≡ to + 1 = omega arith in
      record {
        bytes =
            ap (λ (l : List ℕ). set l to a) e
            ∙ subst (λ (i : ℕ). set (done ++ (get_or b to 0 ∷ drop (suc to) b)) i a ≡ done ++ (a ∷ drop (suc to) b)) p.wrote (set-append_seam done (get_or b to 0) (drop (suc to) b) a)
            ∙ sym (append_assoc done (a ∷ []) (drop (suc to) b))
            ∙ ap (λ (i : ℕ). (done ++ (a ∷ [])) ++ drop i b) one;
        wrote = length-append done (a ∷ []) ∙ ap (λ (i : ℕ). i + 1) p.wrote;
      }

  -- all is answered
  pub filled-all : length b ≤ to → left ≡ done
  filled-all end = p.bytes ∙ ap (λ (l : List ℕ). done ++ l) (drop_of_length-le b end) ∙ append-nil done
