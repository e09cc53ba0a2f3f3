-- Laws of the tokens of a text, and of the last n elements of a list.
-- Assumes nothing.
use Rattle.std.proofs.Common.{◌≡◌, refl, ap, sym, ◌∙◌, Bool, true, false, cond, List, [], ◌∷◌, ℕ, suc, ◌+◌, ◌-◌, ◌≤◌, zero-le, arith, length, drop, length-drop, drop-drop, eqb-true}
use Rattle.std.proofs.Math.Nat.{sub_self}
use Rattle.lexer.specs.Class.{class_of, wordy, spacey, marky}
use Rattle.lexer.specs.Run.{run, after}
use Rattle.lexer.specs.Tokens.{Token, word, mark, other, token_at, tokens_from, tokens, last}

-- spaces and marks are of no word, and marks are no spaces
pub space_no_word : (b : ℕ) → spacey b ≡ true → wordy b ≡ false
unfolding spacey wordy
space_no_word b e = rw (eqb-true (class_of b) 1 e) refl

pub mark_no_word : (b : ℕ) → marky b ≡ true → wordy b ≡ false
unfolding marky wordy
mark_no_word b e = rw (eqb-true (class_of b) 5 e) refl

pub mark_no_space : (b : ℕ) → marky b ≡ true → spacey b ≡ false
unfolding marky spacey
mark_no_space b e = rw (eqb-true (class_of b) 5 e) refl

-- spaces in front change nothing
pub tokens_after_spaces : (s : List ℕ) → tokens (after spacey s) ≡ tokens s
unfolding after tokens_from
tokens_after_spaces [] = refl
tokens_after_spaces (b ∷ s) = go (spacey b) refl (tokens_after_spaces s)
  where
    go : (q : Bool) → spacey b ≡ q → tokens (after spacey s) ≡ tokens s → tokens (cond q (after spacey s) (b ∷ s)) ≡ tokens (b ∷ s)
    go true e ih = ih ∙ sym (rw (space_no_word b e, e) refl)
    go false e ih = refl

no_word : (sp mk : Bool) (b : ℕ) (w : List ℕ) (ts : List Token) → token_at false sp mk true b w ts ≡ token_at false sp mk false b w ts
no_word true mk b w ts = refl
no_word false true b w ts = refl
no_word false false b w ts = refl

-- in a word, nothing is added until its end
pub tokens_in_word : (s : List ℕ) → tokens_from true s ≡ tokens (after wordy s)
unfolding after tokens_from
tokens_in_word [] = refl
tokens_in_word (b ∷ s) = go (wordy b) refl (tokens_in_word s)
  where
    go : (q : Bool) → wordy b ≡ q → tokens_from true s ≡ tokens (after wordy s) → tokens_from true (b ∷ s) ≡ tokens (cond q (after wordy s) (b ∷ s))
    go true e ih = rw e ih
    go false e ih = rw e (no_word (spacey b) (marky b) b (run wordy s) (tokens_from false s))

-- a text that begins with a mark
pub tokens-mark : (b : ℕ) (s : List ℕ) → marky b ≡ true → tokens (b ∷ s) ≡ mark b ∷ tokens s
unfolding tokens_from
tokens-mark b s e = rw (mark_no_word b e, mark_no_space b e, e) refl

-- a text that begins with a word
pub tokens-word : (b : ℕ) (s : List ℕ) → wordy b ≡ true → tokens (b ∷ s) ≡ word (run wordy (b ∷ s)) ∷ tokens (after wordy (b ∷ s))
unfolding tokens_from run after
tokens-word b s e = rw e (ap (λ (ts : List Token). word (b ∷ run wordy s) ∷ ts) (tokens_in_word s))

-- a text that begins with any other byte
pub tokens-other : (b : ℕ) (s : List ℕ) → marky b ≡ false → wordy b ≡ false → spacey b ≡ false → tokens (b ∷ s) ≡ other b ∷ tokens s
unfolding tokens_from
tokens-other b s m w p = rw (w, p, m) refl

-- the last n elements
pub last-all : (s : List ℕ) → last (length s) s ≡ s
unfolding last
last-all s = rw (sub_self (length s)) refl

-- what is left of a list's end is the list's own end
pub last-drop : (k n : ℕ) (s : List ℕ) → k + n ≡ length s → drop k s ≡ last n s
unfolding last
last-drop k n s e =
    let q : k ≡ length s - n = omega arith in
    ap (λ (j : ℕ). drop j s) q

pub last-last : (n m : ℕ) (s : List ℕ) → n ≤ m → m ≤ length s → last n (last m s) ≡ last n s
unfolding last
last-last n m s h h₂ =
    let q : length s - m + (length s - (length s - m) - n) ≡ length s - n = omega arith in
    rw (length-drop, drop-drop) (ap (λ (j : ℕ). drop j s) q)

-- there are no more tokens than bytes
pub tokens-length : (i : Bool) (s : List ℕ) → length (tokens_from i s) ≤ length s
unfolding tokens_from
tokens-length i [] = zero-le
tokens-length i (b ∷ s) = go (wordy b) (spacey b) (marky b) i (tokens-length (wordy b) s)
  where
    go : (w p m i : Bool) → length (tokens_from (wordy b) s) ≤ length s → length (token_at w p m i b (run wordy s) (tokens_from (wordy b) s)) ≤ suc (length s)
    go true p m true h = omega arith
    go true p m false h = omega arith
    go false true m i h = omega arith
    go false false true i h = omega arith
    go false false false i h = omega arith
