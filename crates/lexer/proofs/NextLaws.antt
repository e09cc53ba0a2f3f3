-- The first token of a text, found by `next`: each of its answers is a `FirstToken`; and what `lexeme_of` tells of the text's tokens.
-- Assumes nothing.
use Rattle.std.proofs.Common.{◌≡◌, ℕ, suc, ◌+◌, ◌-◌, ◌≤◌, ◌<◌, Bool, true, false, cond, List, [], ◌∷◌, length, take, drop, Some, None, Bor, refl, ap, sym, ◌∙◌, arith, eq-eqb, ne_eqb, drop-drop, take_all, length-drop}
use Rattle.lexer.specs.Class.{class_of, wordy, spacey, marky}
use Rattle.lexer.specs.Run.{run, after}
use Rattle.lexer.specs.Words.{kind_of, kind_number}
use Rattle.lexer.specs.Lexeme.{Lexeme, End, Word, Mark, Other}
use Rattle.lexer.specs.Tokens.{word, mark, other, tokens, tokens_from, last, lexeme_at, lexeme_of, Next}
use Rattle.lexer.specs.First.{FirstToken}
use Rattle.lexer.specs.declared.words.WordKind.{WordKind}
use Rattle.lexer.specs.declared.tokens.Lexeme.TheVariants as found
use Rattle.lexer.proofs.RunLaws.{no_length, run_more, run_length, run_drop, after-size}
use Rattle.lexer.proofs.TokenLaws.{tokens_after_spaces, tokens-mark, tokens-word, tokens-other, last-drop}

-- the byte after a run fails
head_after : (p : ℕ → Bool) (s : List ℕ) (b : ℕ) (u : List ℕ) → b ∷ u ≡ after p s → p b ≡ false
unfolding after
head_after p [] b u e = let z : ◌≡◌ {A = ℕ} 0 1 = cc in absurd (omega arith)
head_after p (x ∷ s) b u e = go (p x) refl (λ e₂. head_after p s b u e₂) e
  where
    go : (q : Bool) → p x ≡ q → (b ∷ u ≡ after p s → p b ≡ false) → b ∷ u ≡ cond q (after p s) (x ∷ s) → p b ≡ false
    go true h ih e₁ = ih e₁
    go false h ih e₁ = let q : b ≡ x = cc in rw q h

-- a part of what is left after a run is the text's own end
after-rest : (p : ℕ → Bool) (s t : List ℕ) (k : ℕ) → t ≡ after p s → k ≤ length t → drop k t ≡ last (length t - k) s
after-rest p s t k e h =
    let q : t ≡ drop (length (run p s)) s = e ∙ sym (run_drop p s) in
    let l : length t ≡ length s - length (run p s) = ap length e ∙ after-size p s in
    let r : length (run p s) ≤ length s = run_length p s in
    ap (drop k) q ∙ drop-drop k (length (run p s)) s ∙ last-drop (length (run p s) + k) (length t - k) s (omega arith)

after-length : (p : ℕ → Bool) (s t : List ℕ) → t ≡ after p s → length t ≤ length s
after-length p s t e =
    let l : length t ≡ length s - length (run p s) = ap length e ∙ after-size p s in
    omega arith

-- the bytes after the first
one_less : (u : List ℕ) → suc (length u) - 1 ≡ length u
one_less u = omega arith

-- whether the first byte is of a word, told by the length of the run
run_none : (b : ℕ) (u : List ℕ) → length (run wordy (b ∷ u)) ≡ 0 → wordy b ≡ false
unfolding run
run_none b u w = go (wordy b) refl w
  where
    go : (q : Bool) → wordy b ≡ q → length (cond q (b ∷ run wordy u) []) ≡ 0 → wordy b ≡ false
    go true e h = absurd (omega arith)
    go false e h = e

run-some : (b : ℕ) (u : List ℕ) → (length (run wordy (b ∷ u)) ≡ 0 → ⊥) → wordy b ≡ true
unfolding run
run-some b u w = go (wordy b) refl w
  where
    go : (q : Bool) → wordy b ≡ q → (length (cond q (b ∷ run wordy u) []) ≡ 0 → ⊥) → wordy b ≡ true
    go true e h = e
    go false e h = absurd (h refl)

-- What is left after a token is the text's end.

module _ (s : List ℕ) (b : ℕ) (u : List ℕ) (e : b ∷ u ≡ after spacey s) where
  -- after one byte
  rest-is : u ≡ last (length u) s
  rest-is = rw (one_less u) at (after-rest spacey s (b ∷ u) 1 e (omega arith))

  -- after a word
  word-rest : after wordy (b ∷ u) ≡ last (length (after wordy (b ∷ u))) s
  word-rest =
      let t = b ∷ u in
      sym (run_drop wordy t) ∙ after-rest spacey s t _ e (run_length wordy t) ∙ ap (λ (m : ℕ). last m s) (sym (after-size wordy t))

-- Each answer of `next` is the first token: t is what is left after the spaces in front.

module _ (s t : List ℕ) (e : t ≡ after spacey s) where
  -- an answer's lexeme is that of t
  named : (l : Lexeme) → lexeme_at t ≡ l → l ≡ lexeme_of s
  unfolding lexeme_of
  named l h = sym h ∙ ap lexeme_at e

  -- nothing is left
  pub first-none : length t ≡ 0 → FirstToken s None
  first-none h = record { told = named End (ap lexeme_at (no_length t h)); parts = tt }

  module _ (b : ℕ) (u : Bor (List ℕ)) (q : t ≡ b ∷ u.now) where
    -- so the first byte and what is left after it are
    front : b ∷ u.now ≡ after spacey s
    front = sym q ∙ e

    -- a byte of class 5
    pub first-mark : class_of b ≡ 5 → FirstToken s (Some (found.Mark b, u))
    unfolding marky
    first-mark m = record { told = named (Mark b (length u.now)) (rw (q, eq-eqb (class_of b) 5 m) refl); parts = rest-is s b u.now front }

    -- a byte of no word
    pub first-other : (class_of b ≡ 5 → ⊥) → length (run wordy t) ≡ 0 → FirstToken s (Some (found.Other b, u))
    unfolding marky
    first-other m z = record {
      told = named (Other b (length u.now)) (rw (q, ne_eqb (class_of b) 5 m, run_none b u.now (rw q at z)) refl);
      parts = rest-is s b u.now front;
    }

    -- a word, with v left after it
    pub first-word : (k : WordKind) (w v : Bor (List ℕ)) → (class_of b ≡ 5 → ⊥) → w.now ≡ run wordy t → (length w.now ≡ 0 → ⊥) → kind_number k ≡ kind_of w.now
        → v.now ≡ take (length t - length w.now) (drop (length w.now) t) → FirstToken s (Some (found.Word k w, v))
    unfolding marky
    first-word k w v m h z n d =
        let y : wordy b ≡ true = run-some b u.now (λ f. z (ap length h ∙ ap (λ (x : List ℕ). length (run wordy x)) q ∙ f)) in
        let a : v.now ≡ after wordy t = d ∙ take_all (length t - length w.now) (drop (length w.now) t) (simp length-drop (omega arith)) ∙ ap (λ (x : List ℕ). drop (length x) t) h ∙ run_drop wordy t in
        let g : v.now ≡ after wordy (b ∷ u.now) = a ∙ ap (after wordy) q in
        record {
          told = named (Word (kind_number k) (length v.now)) (rw (q, ne_eqb (class_of b) 5 m, y, n, h, g, q) refl);
          parts = (h ∙ ap (run wordy) e, rw g (word-rest s b u.now front));
        }

-- What the lexeme tells of the text's tokens.

no-tokens : tokens [] ≡ []
unfolding tokens_from
no-tokens = refl

module _ (s : List ℕ) (b : ℕ) (u : List ℕ) (e : b ∷ u ≡ after spacey s) where
  begins : tokens s ≡ tokens (b ∷ u)
  begins = sym (tokens_after_spaces s) ∙ ap tokens (sym e)

  shorter : length u < length s
  shorter = after-length spacey s (b ∷ u) e

  means_mark : marky b ≡ true → Next s (Mark b (length u))
  unfolding Next
  means_mark m = (shorter, begins ∙ tokens-mark b u m ∙ ap (λ (v : List ℕ). mark b ∷ tokens v) (rest-is s b u e))

  means_other : marky b ≡ false → wordy b ≡ false → Next s (Other b (length u))
  unfolding Next
  means_other m w = (shorter, begins ∙ tokens-other b u m w (head_after spacey s b u e) ∙ ap (λ (v : List ℕ). other b ∷ tokens v) (rest-is s b u e))

  means_word : wordy b ≡ true → Next s (Word (kind_of (run wordy (b ∷ u))) (length (after wordy (b ∷ u))))
  unfolding Next
  means_word w =
      let t = b ∷ u in
      let l : length (run wordy t) ≤ length t = run_length wordy t in
      let n : length (after wordy t) ≡ length t - length (run wordy t) = after-size wordy t in
      let z : length (run wordy t) ≡ suc (length (run wordy u)) = run_more wordy t 0 (omega arith) w in
      (omega (arith, shorter), (run wordy t, refl, begins ∙ tokens-word b u w ∙ ap (λ (v : List ℕ). word (run wordy t) ∷ tokens v) (word-rest s b u e), ap (run wordy) (sym e)))

means_at : (s t : List ℕ) → t ≡ after spacey s → Next s (lexeme_at t)
unfolding Next
means_at s [] e = sym (tokens_after_spaces s) ∙ ap tokens (sym e) ∙ no-tokens
means_at s (b ∷ u) e = go (marky b) refl (wordy b) refl
  where
    go : (m : Bool) → marky b ≡ m → (w : Bool) → wordy b ≡ w
        → Next s (cond m (Mark b (length u)) (cond w (Word (kind_of (run wordy (b ∷ u))) (length (after wordy (b ∷ u)))) (Other b (length u))))
    go true m w h = means_mark s b u e m
    go false m true h = means_word s b u e h
    go false m false h = means_other s b u e m h

-- Whatever `next` answers tells the first token and the tokens of what is left.
pub next_means : (s : List ℕ) (l : Lexeme) → l ≡ lexeme_of s → Next s l
unfolding lexeme_of
next_means s l q = rw q (means_at s (after spacey s) refl)
