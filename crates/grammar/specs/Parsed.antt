-- What a parser gives, and the small parsers that those of the grammar are made of.
-- Assumes nothing.
use Rattle.std.specs.Prelude.{ℕ, ◌-◌, Bool, true, false, cond, List, [], ◌∷◌, eqb}
use Rattle.std.proofs.Math.Option as option
use Rattle.lexer.specs.Class.{within}
use Rattle.lexer.specs.Words.{kind_of, zero_k}
use Rattle.lexer.specs.Tokens.{Token, word, mark, other}

-- nothing, or what was read and the tokens after it
pub data Parsed (A : Type 0) : Type 0 where
  none : Parsed A
  some : A → List Token → Parsed A

-- what was read, made into something else
abbrev pub map : {A B : Type 0} → (A → B) → Parsed A → Parsed B
map f none = none
map f (some a ts) = some (f a) ts

-- one after the other
abbrev pub bind : {A B : Type 0} → Parsed A → (A → List Token → Parsed B) → Parsed B
bind none k = none
bind (some a ts) k = k a ts

-- what follows where the first is there, and the other where it is not
abbrev pub choose : {A B : Type 0} → Parsed A → (A → List Token → Parsed B) → Parsed B → Parsed B
choose none k d = d
choose (some a ts) k d = k a ts

-- the mark b
unfoldable pub mark_is : ℕ → List Token → Parsed (Unit {0})
mark_is b [] = none
mark_is b (word w ∷ ts) = none
mark_is b (mark m ∷ ts) = cond (eqb m b) (some tt ts) none
mark_is b (other o ∷ ts) = none

-- a word of the kind k
unfoldable pub word_is : ℕ → List Token → Parsed (List ℕ)
word_is k [] = none
word_is k (word w ∷ ts) = cond (eqb (kind_of w) k) (some w ts) none
word_is k (mark m ∷ ts) = none
word_is k (other o ∷ ts) = none

-- "one of 1 2 3 4", as its number
unfoldable pub place_is : List Token → Parsed ℕ
place_is [] = none
place_is (word w ∷ ts) = cond (within 13 16 (kind_of w)) (some (kind_of w - zero_k) ts) none
place_is (mark m ∷ ts) = none
place_is (other o ∷ ts) = none

-- nothing is left
unfoldable pub is_none : List Token → Bool
is_none [] = true
is_none (t ∷ ts) = false

-- whether all was read
unfoldable pub whole : {A : Type 0} → Parsed A → Bool
whole none = false
whole (some a ts) = is_none ts

-- what was read, where all was read
unfoldable pub wholly : {A : Type 0} → Parsed A → option.Option A
wholly none = option.none
wholly (some a []) = option.some a
wholly (some a (t ∷ ts)) = option.none
