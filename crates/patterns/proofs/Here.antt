-- Reading a code at a place: what stands there, from what is spelled from there on.
-- Assumes nothing.
use Rattle.std.proofs.Common.{◌≡◌, refl, sym, ap, ◌∙◌, Bool, true, false, List, ◌∷◌, ◌++◌, ℕ, suc, ◌+◌, ◌<◌, ◌≤◌, add-one, ltb, length, get_or, drop, drop_of_length-le, drop-cons, drop-drop, get_or-drop, add-zero, ltb-true, ltb-false}
use mathlib.Core.List.{head-eq_of_cons-eq, tail-eq_of_cons-eq, cons-ne-nil}
use Rattle.std.proofs.Math.Seq.{drop-append_seam}

pub record Here (code : List ℕ) (at b : ℕ) (tl : List ℕ) : Type 0 where
  pub inside : at < length code
  pub byte : get_or code at 0 ≡ b
  pub next : drop (at + 1) code ≡ tl

-- past the end nothing is spelled
pub none : (code : List ℕ) (at b : ℕ) (tl : List ℕ) → length code ≤ at → drop at code ≡ b ∷ tl → ⊥
none code at b tl h e = cons-ne-nil b tl (sym e ∙ drop_of_length-le code h)

pub here : (code : List ℕ) (at b : ℕ) (tl : List ℕ) → drop at code ≡ b ∷ tl → Here code at b tl
here code at b tl e = go (ltb at (length code)) refl
  where
    go : (t : Bool) → ltb at (length code) ≡ t → Here code at b tl
    go true q =
        let l : at < length code = ltb-true at (length code) q in
        let d : get_or code at 0 ∷ drop (suc at) code ≡ b ∷ tl = sym (drop-cons code at 0 l) ∙ e in
        record {
          inside = l;
          byte = head-eq_of_cons-eq d;
          next = ap (λ (n : ℕ). drop n code) (add-one at) ∙ tail-eq_of_cons-eq d;
        }
    go false q = absurd (none code at b tl (ltb-false at (length code) q) e)

-- what stands after a spelling
pub beyond : (code : List ℕ) (at e : ℕ) (xs ys : List ℕ) → drop at code ≡ xs ++ ys → e ≡ at + length xs → drop e code ≡ ys
beyond code at e xs ys h q =
    ap (λ (n : ℕ). drop n code) q ∙ sym (drop-drop (length xs) at code) ∙ ap (drop (length xs)) h ∙ drop-append_seam xs ys

-- the byte at a place is the first of what stands from there on
pub first : (code : List ℕ) (at : ℕ) (l : List ℕ) → drop at code ≡ l → get_or code at 0 ≡ get_or l 0 0
first code at l h = ap (λ (n : ℕ). get_or code n 0) (sym (add-zero at)) ∙ sym (get_or-drop at code 0 0) ∙ ap (λ (x : List ℕ). get_or x 0 0) h
