-- Code written out: a keyword, the space between two words, and the loop of `tokens`.
-- Assumes nothing.
use Rattle.std.proofs.Common.{◌≡◌, refl, ap, sym, ◌∙◌, Bool, true, false, ◌&&◌, List, [], ◌∷◌, ◌++◌, map, append_assoc, append-nil, ℕ, ◌+◌, ◌<◌, ◌≤◌, add-one, arith, length, drop, get_or, drop_of_length-le, drop-cons}
use Rattle.lexer.specs.Render.{gap, render_from, render}
use Rattle.columns.specs.Writing.{Writes}
use Rattle.columns.proofs.WriteLaws.{writes_none, writes_then, writes_same}
use Rattle.render.specs.Decoded.{is_word, bytes_of, token_of}
use Rattle.render.proofs.ByteLaws.{render-byte}

module _ (at : ℕ) (lent : List ℕ) (after : Bool) (b : ℕ) where
  -- "and no other space": none between a word and a mark
  pub gap_before_mark : {k : Bool} → after ≡ true → k ≡ is_word b → k ≡ false → Writes at (gap (after && is_word b) []) lent lent at
  gap_before_mark a e h = writes_same (rw (a, sym e ∙ h) refl) (writes_none at lent)

  -- nor after a mark, nor at the start
  pub gap_after_mark : after ≡ false → Writes at (gap (after && is_word b) []) lent lent at
  gap_after_mark a = writes_same (rw a refl) (writes_none at lent)

-- i bytes of code are written, and the token before the others is a word or not
pub record Going (name : ℕ → List ℕ) (code : List ℕ) (at : ℕ) (lent now : List ℕ) (next : ℕ) (after : Bool) (i : ℕ) : Type 0 where
  pub within : i ≤ length code
  pub text : List ℕ
  pub written : Writes at text lent now next
  pub left : text ++ render_from after (map (token_of name) (drop i code)) ≡ render (map (token_of name) code)

module _ (name : ℕ → List ℕ) (code : List ℕ) where
  -- nothing is written yet
  pub going_start : (at : ℕ) (lent : List ℕ) → Going name code at lent lent at false 0
  going_start at lent = record { within = omega arith; text = []; written = writes_none at lent; left = refl }

  module _ {at : ℕ} {lent now : List ℕ} {next : ℕ} {after : Bool} {i : ℕ} (g : Going name code at lent now next after i) where
    -- one byte more: a space where two words meet, and the bytes of its token
    pub going_more : {k : Bool} {p q : ℕ} {spaced done : List ℕ} → i < length code → Writes next (gap (after && is_word (get_or code i 0)) []) now spaced p
        → Writes p (bytes_of name (get_or code i 0)) spaced done q → k ≡ is_word (get_or code i 0) → Going name code at lent done q k (i + 1)
    going_more h a d f =
        let b = get_or code i 0 in
        let w = gap (after && is_word b) [] ++ bytes_of name b in
        let rest = render_from (is_word b) (map (token_of name) (drop (i + 1) code)) in
        let n : drop i code ≡ b ∷ drop (i + 1) code = rw add-one (drop-cons code i 0 h) in
        let e : render_from after (map (token_of name) (drop i code)) ≡ w ++ rest =
        ap (λ (c : List ℕ). render_from after (map (token_of name) c)) n
        ∙ render-byte b name after (map (token_of name) (drop (i + 1) code))
        ∙ sym (append_assoc (gap (after && is_word b) []) (bytes_of name b) rest) in
        rw f
        (record {
          within = omega arith;
          text = g.text ++ w;
          written = writes_then g.written (writes_then a d);
          left = append_assoc g.text w rest ∙ ap (λ (v : List ℕ). g.text ++ v) (sym e) ∙ g.left;
        })

    -- no code is left
    pub going_end : length code ≤ i → Writes at (render (map (token_of name) code)) lent now next
    unfolding render_from
    going_end h =
        let n : drop i code ≡ [] = drop_of_length-le code h in
        writes_same (sym (append-nil g.text) ∙ ap (λ (c : List ℕ). g.text ++ render_from after (map (token_of name) c)) (sym n) ∙ g.left) g.written
