-- A reserved word, a name and a place are read back from their one token.
-- Assumes nothing.
use Rattle.std.proofs.Common.{◌≡◌, refl, List, [], ◌∷◌, ℕ, zero, suc, ◌+◌, ◌<◌, ◌≤◌, get_or, arith, eq-eqb}
use Rattle.lexer.specs.Class.{class_of}
use Rattle.lexer.specs.Words.{kind_of, same, name_like, digit_kind, reserved}
use Rattle.lexer.specs.Tokens.{Token, word}
use Rattle.grammar.specs.Parsed.{none, some, mark_is, word_is, place_is}

abbrev pub NoMark : ℕ → List Token → Type 0
NoMark b ts = mark_is b ts ≡ none

pub word_read : (k : ℕ) (w : List ℕ) (ts : List Token) → kind_of w ≡ k → word_is k (word w ∷ ts) ≡ some w ts
unfolding word_is
word_read k w ts e = rw (eq-eqb (kind_of w) k e) refl

-- the reserved word at place j is of the kind 1 + j
pub kind-reserved : (j : ℕ) → j < 10 → kind_of (get_or reserved j []) ≡ 1 + j
unfolding kind_of same
kind-reserved zero h = refl
kind-reserved (suc zero) h = refl
kind-reserved (suc (suc zero)) h = refl
kind-reserved (suc (suc (suc zero))) h = refl
kind-reserved (suc (suc (suc (suc zero)))) h = refl
kind-reserved (suc (suc (suc (suc (suc zero))))) h = refl
kind-reserved (suc (suc (suc (suc (suc (suc zero)))))) h = refl
kind-reserved (suc (suc (suc (suc (suc (suc (suc zero))))))) h = refl
kind-reserved (suc (suc (suc (suc (suc (suc (suc (suc zero)))))))) h = refl
kind-reserved (suc (suc (suc (suc (suc (suc (suc (suc (suc zero))))))))) h = refl
kind-reserved (suc (suc (suc (suc (suc (suc (suc (suc (suc (suc j)))))))))) h = absurd (omega arith)

pub place_read : (n : ℕ) (ts : List Token) → 1 ≤ n → n ≤ 4 → place_is (word ((n + 48) ∷ []) ∷ ts) ≡ some n ts
unfolding place_is kind_of same name_like digit_kind class_of
place_read zero ts l h = absurd (omega arith)
place_read (suc zero) ts l h = refl
place_read (suc (suc zero)) ts l h = refl
place_read (suc (suc (suc zero))) ts l h = refl
place_read (suc (suc (suc (suc zero)))) ts l h = refl
place_read (suc (suc (suc (suc (suc n))))) ts l h = absurd (omega arith)
