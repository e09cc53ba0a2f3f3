-- Which tokens a text can have; the words among them have only bytes of words.
-- Assumes nothing.
use Rattle.std.proofs.Common.{◌≡◌, refl, Bool, true, false, cond, List, [], ◌∷◌, ℕ}
use Rattle.common.specs.All.{All}
use Rattle.common.proofs.AllLaws.{all_map}
use Rattle.lexer.specs.Class.{wordy, spacey, marky, Wordy}
use Rattle.lexer.specs.Run.{run}
use Rattle.lexer.specs.Tokens.{Token, word, mark, other, token_at, tokens_from}

-- where the token is a word, it has only bytes of words
abbrev pub WordyToken : Token → Type 0
WordyToken (word w) = Wordy w
WordyToken (mark b) = Unit {0}
WordyToken (other b) = Unit {0}

-- a longest run of bytes of words has only those
run-wordy : (s : List ℕ) → Wordy (run wordy s)
unfolding run
run-wordy [] = tt
run-wordy (b ∷ s) = go (wordy b) refl (run-wordy s)
  where
    go : (q : Bool) → wordy b ≡ q → Wordy (run wordy s) → Wordy (cond q (b ∷ run wordy s) [])
    go true e ih = (e, ih)
    go false e ih = tt

-- A token that a text can have: a word is not empty and has only bytes of words, a mark is of class 5, and any other byte is of no word, no space and no mark.
abbrev pub Formed : Token → Type 0
Formed (word []) = ⊥
Formed (word (b ∷ w)) = Wordy (b ∷ w)
Formed (mark b) = marky b ≡ true
Formed (other b) = (marky b ≡ false) × (wordy b ≡ false) × (spacey b ≡ false)

-- The tokens of any text are such tokens.
pub tokens_formed : (i : Bool) (s : List ℕ) → All Formed (tokens_from i s)
unfolding tokens_from
tokens_formed i [] = tt
tokens_formed i (b ∷ s) = go (wordy b) refl (spacey b) refl (marky b) refl i (tokens_formed (wordy b) s)
  where
    go : (q : Bool) → wordy b ≡ q → (p : Bool) → spacey b ≡ p → (m : Bool) → marky b ≡ m → (j : Bool) → All Formed (tokens_from (wordy b) s)
        → All Formed (token_at q p m j b (run wordy s) (tokens_from (wordy b) s))
    go true e p e₂ m e₃ true h = h
    go true e p e₂ m e₃ false h = ((e, run-wordy s), h)
    go false e true e₂ m e₃ j h = h
    go false e false e₂ true e₃ j h = (e₃, h)
    go false e false e₂ false e₃ j h = ((e₃, e, e₂), h)

-- where such a token is a word, it has only bytes of words
pub formed_wordy : (t : Token) → Formed t → WordyToken t
formed_wordy (word []) h = tt
formed_wordy (word (b ∷ w)) h = h
formed_wordy (mark b) h = tt
formed_wordy (other b) h = tt

-- so have the words among a text's tokens
pub tokens-wordy : (i : Bool) (s : List ℕ) → All WordyToken (tokens_from i s)
tokens-wordy i s = all_map Formed WordyToken formed_wordy (tokens_from i s) (tokens_formed i s)
