-- Laws of tokens written out again: they are read as the same tokens, with or without padding; no text of the same tokens is shorter; and no byte of words and
-- marks written out is of class 0.
-- Assumes nothing.
use Rattle.std.proofs.Common.{◌≡◌, refl, ap, sym, ◌∙◌, Bool, true, false, cond, List, [], ◌∷◌, ◌++◌, append-nil, append_assoc, ℕ, zero, suc, ◌+◌, ◌≤◌, zero-le, arith, length, replicate, length-append, eqb-true}
use Rattle.common.specs.All.{All}
use Rattle.lexer.specs.Class.{class_of, wordy, spacey, marky, all_classed, Wordy}
use Rattle.lexer.specs.Run.{run, after}
use Rattle.lexer.specs.Tokens.{Token, word, mark, other, token_at, tokens_from, tokens}
use Rattle.lexer.specs.Render.{gap, render_from, render}
use Rattle.lexer.proofs.ClassedLaws.{classed_cons}
use Rattle.lexer.proofs.TokenLaws.{mark_no_word, tokens_in_word, tokens-mark, tokens-word, tokens-other}
use Rattle.lexer.proofs.WordLaws.{Formed, tokens_formed, formed_wordy}

-- a text that begins with no byte of a word
abbrev Apart : List ℕ → Type 0
Apart [] = Unit {0}
Apart (b ∷ s) = wordy b ≡ false

-- no word stands in front of such a text
run_apart : (s : List ℕ) → Apart s → run wordy s ≡ []
unfolding run
run_apart [] h = refl
run_apart (b ∷ s) h = rw h refl

-- so nothing is left out after it
after_apart : (s : List ℕ) → Apart s → after wordy s ≡ s
unfolding after
after_apart [] h = refl
after_apart (b ∷ s) h = rw h refl

-- a word in front of such a text is its longest run
run-word : (w s : List ℕ) → Wordy w → Apart s → run wordy (w ++ s) ≡ w
unfolding run
run-word [] s h a = run_apart s a
run-word (b ∷ w) s h a = rw (h.0, run-word w s h.1 a) refl

-- and the text is left after it
after-word : (w s : List ℕ) → Wordy w → Apart s → after wordy (w ++ s) ≡ s
unfolding after
after-word [] s h a = after_apart s a
after-word (b ∷ w) s h a = rw h.0 (after-word w s h.1 a)

-- in front of such a text it is the same whether a word stands before
apart_any : (i : Bool) (s : List ℕ) → Apart s → tokens_from i s ≡ tokens s
apart_any true s a = tokens_in_word s ∙ ap tokens (after_apart s a)
apart_any false s a = refl

-- a space in front changes nothing
spaced : (i : Bool) (s : List ℕ) → tokens_from i (32 ∷ s) ≡ tokens s
unfolding tokens_from wordy spacey class_of
spaced true s = refl
spaced false s = refl

-- "Any number of spaces may stand .. at either end.": padding has no token
padding_none : (k : ℕ) (i : Bool) → tokens_from i (replicate k 32) ≡ []
unfolding tokens_from
padding_none zero i = refl
padding_none (suc k) i = spaced i (replicate k 32) ∙ padding_none k false

-- a space is of no word
space_apart : wordy 32 ≡ false
unfolding wordy class_of
space_apart = refl

-- so padding begins with no byte of a word
padding_apart : (k : ℕ) → Apart (replicate k 32)
padding_apart zero = tt
padding_apart (suc k) = space_apart

-- nor does what is written after a word, with the padding
rest_apart : (ts : List Token) (k : ℕ) → All Formed ts → Apart (render_from true ts ++ replicate k 32)
unfolding render_from
rest_apart [] k h = padding_apart k
rest_apart (word w ∷ ts) k h = space_apart
rest_apart (mark b ∷ ts) k h = mark_no_word b h.0
rest_apart (other b ∷ ts) k h = h.0.1

-- a word in front of such a text is the text's first token
word_first : (w s : List ℕ) → Formed (word w) → Apart s → tokens (w ++ s) ≡ word w ∷ tokens s
word_first [] s h a = absurd h
word_first (b ∷ w) s h a =
    tokens-word b (w ++ s) h.0 ∙ rw (run-word (b ∷ w) s h a, after-word (b ∷ w) s h a) refl

-- also with the space that parts it from a word before
word-spaced : (i : Bool) (w s : List ℕ) → Formed (word w) → Apart s → tokens_from i (gap i (w ++ s)) ≡ word w ∷ tokens s
word-spaced true w s h a = spaced true (w ++ s) ∙ word_first w s h a
word-spaced false w s h a = word_first w s h a

-- a text after one with a space in front
gap-append : (i : Bool) (s t : List ℕ) → gap i s ++ t ≡ gap i (s ++ t)
gap-append true s t = refl
gap-append false s t = refl

-- a text after a word written out and what follows it
word-append : (i : Bool) (w s t : List ℕ) → gap i (w ++ s) ++ t ≡ gap i (w ++ (s ++ t))
word-append i w s t = gap-append i (w ++ s) t ∙ ap (gap i) (append_assoc w s t)

-- Tokens written out are read as the same tokens, also where spaces follow and where a word stands before.
pub tokens_rendered : (i : Bool) (ts : List Token) (k : ℕ) → All Formed ts → tokens_from i (render_from i ts ++ replicate k 32) ≡ ts
unfolding render_from
tokens_rendered i [] k h = padding_none k i
tokens_rendered i (word w ∷ ts) k h =
    let r : List ℕ = render_from true ts ++ replicate k 32 in
    let a : Apart r = rest_apart ts k h.1 in
    let e : tokens r ≡ ts = sym (apart_any true r a) ∙ tokens_rendered true ts k h.1 in
    rw (word-append i w (render_from true ts) (replicate k 32)) (word-spaced i w r h.0 a ∙ ap (λ (us : List Token). word w ∷ us) e)
tokens_rendered i (mark b ∷ ts) k h =
    let r : List ℕ = render_from false ts ++ replicate k 32 in
    apart_any i (b ∷ r) (mark_no_word b h.0) ∙ tokens-mark b r h.0 ∙ ap (λ (us : List Token). mark b ∷ us) (tokens_rendered false ts k h.1)
tokens_rendered i (other b ∷ ts) k h =
    let r : List ℕ = render_from false ts ++ replicate k 32 in
    apart_any i (b ∷ r) h.0.1 ∙ tokens-other b r h.0.0 h.0.1 h.0.2 ∙ ap (λ (us : List Token). other b ∷ us) (tokens_rendered false ts k h.1)

-- "no other space but the padding after the text": a padded text has the tokens that were written
pub tokens-padded : (ts : List Token) (k : ℕ) → All Formed ts → tokens (render ts ++ replicate k 32) ≡ ts
tokens-padded ts k h = tokens_rendered false ts k h

-- and so has the text alone
pub tokens-render : (ts : List Token) → All Formed ts → tokens (render ts) ≡ ts
tokens-render ts h = ap tokens (sym (append-nil (render ts))) ∙ tokens-padded ts 0 h

-- So a text written out again has the tokens it had.
pub render-same : (s : List ℕ) (k : ℕ) → tokens (render (tokens s) ++ replicate k 32) ≡ tokens s
render-same s k = tokens-padded (tokens s) k (tokens_formed false s)

-- a word that stands before adds one byte at most
one-space : (ts : List Token) → length (render_from true ts) ≤ suc (length (render ts))
unfolding render_from
one-space [] = zero-le
one-space (word w ∷ ts) = omega arith
one-space (mark b ∷ ts) = omega arith
one-space (other b ∷ ts) = omega arith

-- what is left of a word and the tokens after it take no more bytes than the text, and so do the tokens of a text
short_both : (s : List ℕ) → (length (run wordy s) + length (render_from true (tokens_from true s)) ≤ length s) × (length (render (tokens s)) ≤ length s)
unfolding run tokens_from render_from
short_both [] = (omega arith, zero-le)
short_both (b ∷ s) = go (wordy b) (spacey b) (marky b) refl (short_both s)
  where
    go : (q p m : Bool) → wordy b ≡ q → (length (run wordy s) + length (render_from true (tokens_from true s)) ≤ length s) × (length (render (tokens s)) ≤ length s)
        → (length (cond q (b ∷ run wordy s) []) + length (render_from true (token_at q p m true b (run wordy s) (tokens_from q s))) ≤ suc (length s))
        × (length (render (token_at q p m false b (run wordy s) (tokens_from q s))) ≤ suc (length s))
    go true p m e h = let n = length-append (run wordy s) (render_from true (tokens_from true s)) in (omega arith, omega arith)
    go false true m e h = let n = one-space (tokens s) in (omega arith, omega arith)
    go false false true e h = (omega arith, omega arith)
    go false false false e h = (omega arith, omega arith)

-- Written out again, a text is no longer than it was.
pub render-short : (s : List ℕ) → length (render (tokens s)) ≤ length s
render-short s = (short_both s).1

-- a word or a mark: the tokens of which no byte can be "a text byte of class 0"
abbrev pub Plain : Token → Type 0
Plain (word w) = Unit {0}
Plain (mark b) = Unit {0}
Plain (other b) = ⊥

-- "1 for space"
space-classed : class_of 32 ≡ 0 → ⊥
unfolding class_of
space-classed e = omega arith

-- so no byte of the padding is of class 0
padding_classed : (k : ℕ) → all_classed (replicate k 32) ≡ true
unfolding all_classed
padding_classed zero = refl
padding_classed (suc k) = classed_cons 32 (replicate k 32) space-classed (padding_classed k)

-- nor is one of a word: "classes 2, 3 and 4"
word-classed : (w s : List ℕ) → Wordy w → all_classed s ≡ true → all_classed (w ++ s) ≡ true
unfolding wordy
word-classed [] s h g = g
word-classed (b ∷ w) s h g =
    classed_cons b (w ++ s) (λ e. let q = rw e at h.0 in let z : ◌≡◌ {A = ℕ} 0 1 = cc in omega arith) (word-classed w s h.1 g)

-- a mark is of class 5
mark-classed : (b : ℕ) → marky b ≡ true → class_of b ≡ 0 → ⊥
unfolding marky
mark-classed b h e = let q = eqb-true (class_of b) 5 h in omega arith

-- a space in front adds none
gap-classed : (i : Bool) (s : List ℕ) → all_classed s ≡ true → all_classed (gap i s) ≡ true
gap-classed true s h = classed_cons 32 s space-classed h
gap-classed false s h = h

-- token by token, where the token before is a word or not
render_from_classed : (i : Bool) (ts : List Token) (k : ℕ) → All Formed ts → All Plain ts → all_classed (render_from i ts ++ replicate k 32) ≡ true
unfolding render_from
render_from_classed i [] k h g = padding_classed k
render_from_classed i (word w ∷ ts) k h g =
    let r : List ℕ = render_from true ts ++ replicate k 32 in
    rw (word-append i w (render_from true ts) (replicate k 32))
    (gap-classed i (w ++ r) (word-classed w r (formed_wordy (word w) h.0) (render_from_classed true ts k h.1 g.1)))
render_from_classed i (mark b ∷ ts) k h g =
    classed_cons b (render_from false ts ++ replicate k 32) (mark-classed b h.0) (render_from_classed false ts k h.1 g.1)
render_from_classed i (other b ∷ ts) k h g = absurd g.0

-- No byte of words and marks written out is of class 0, nor is one of the padding.
pub render-classed : (ts : List Token) (k : ℕ) → All Formed ts → All Plain ts → all_classed (render ts ++ replicate k 32) ≡ true
render-classed ts k h g = render_from_classed false ts k h g
