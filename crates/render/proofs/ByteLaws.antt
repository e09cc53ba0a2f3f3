-- Laws of a byte of code: which bytes stand for words, and the bytes of the token that it stands for.
-- Assumes nothing.
use Rattle.std.proofs.Common.{◌≡◌, refl, Bool, true, false, cond, ◌&&◌, ◌||◌, List, [], ◌∷◌, ◌++◌, ℕ, ◌-◌, ◌<◌, ◌≤◌, arith, leb, le-leb}
use Rattle.std.proofs.lemmas.Bool.{lt-leb}
use Rattle.lexer.specs.Class.{within}
use Rattle.lexer.specs.Tokens.{Token, word, mark}
use Rattle.lexer.specs.Render.{gap, render_from}
use Rattle.render.specs.Decoded.{keyword_of, is_word, bytes_of, token_of}

module _ (b : ℕ) where
  module _ (name : ℕ → List ℕ) where
    -- the bytes of its token: a name's by its id
    pub bytes-name : 128 ≤ b → bytes_of name b ≡ name (b - 128)
    unfolding bytes_of
    bytes-name h = rw (le-leb 128 b h) refl

    -- a byte before the letters is itself
    pub bytes_low : b < 97 → bytes_of name b ≡ b ∷ []
    unfolding bytes_of
    bytes_low h = rw (lt-leb 128 b (omega arith), lt-leb 97 b h) refl

    -- and so is one after them
    pub bytes_high : 122 < b → b < 128 → bytes_of name b ≡ b ∷ []
    unfolding bytes_of
    bytes_high h k = rw (lt-leb 128 b k, le-leb 97 b (omega arith), lt-leb b 122 h) refl

    -- a letter's are its keyword's
    pub bytes_key : 97 ≤ b → b ≤ 122 → bytes_of name b ≡ keyword_of b
    unfolding bytes_of
    bytes_key h k = rw (lt-leb 128 b (omega arith), le-leb 97 b h, le-leb b 122 k) refl

    -- a byte that stands for no word is a mark, its own byte
    bytes-mark : is_word b ≡ false → bytes_of name b ≡ b ∷ []
    unfolding is_word bytes_of
    bytes-mark e = go (leb 128 b) (within 97 122 b) e
      where
        go : (p q : Bool) → (p || (q || within 48 57 b)) ≡ false → cond p (name (b - 128)) (cond q (keyword_of b) (b ∷ [])) ≡ b ∷ []
        go true q e = let z : ◌≡◌ {A = ℕ} 0 1 = cc in absurd (omega arith)
        go false true e = let z : ◌≡◌ {A = ℕ} 0 1 = cc in absurd (omega arith)
        go false false e = refl

    -- A byte of code in front: a space where two words meet, the bytes of its token, and the rest.
    pub render-byte : (i : Bool) (ts : List Token) → render_from i (token_of name b ∷ ts) ≡ gap (i && is_word b) [] ++ (bytes_of name b ++ render_from (is_word b) ts)
    unfolding token_of
    render-byte i ts = go (is_word b) refl i
      where
        go : (q : Bool) → is_word b ≡ q → (i : Bool) → render_from i (cond q (word (bytes_of name b)) (mark b) ∷ ts) ≡ gap (i && q) [] ++ (bytes_of name b ++ render_from q ts)
        go true e true = unfold render_from in refl
        go true e false = unfold render_from in refl
        go false e true = unfold render_from in rw (bytes-mark e) refl
        go false e false = unfold render_from in rw (bytes-mark e) refl
