-- The parsers of one token give what that token spells.
-- Assumes nothing.
use Rattle.std.proofs.Common.{◌≡◌, refl, ap, sym, ◌∙◌, Bool, true, false, cond, List, [], ◌∷◌, ◌++◌, append_assoc, ℕ, ◌+◌, ◌-◌, ◌≤◌, ◌<◌, arith, get_or, eqb, leb, eqb-true, leb-true}
use Rattle.lexer.specs.Words.{kind_of, reserved}
use Rattle.lexer.specs.Tokens.{Token, word, mark, other}
use Rattle.lexer.specs.Class.{within}
use Rattle.common.proofs.Bools.{and_left, and_right}
use Rattle.lexer.proofs.KindLaws.{kind-word, kind_digit}
use Rattle.grammar.specs.Parsed.{none, some, mark_is, word_is, place_is}
use Rattle.grammar.proofs.Spells.{Spells}

abbrev Any : Unit {0} → Type 0
Any a = Unit {0}

abbrev Marked : ℕ → Unit {0} → List Token
Marked b a = mark b ∷ []

pub mark_spells : (b : ℕ) (ts : List Token) → Spells Any (Marked b) ts (mark_is b ts)
unfolding mark_is
mark_spells b [] = record { it = tt }
mark_spells b (word w ∷ ts) = record { it = tt }
mark_spells b (mark m ∷ ts) = go (eqb m b) refl
  where
    go : (q : Bool) → eqb m b ≡ q → Spells Any (Marked b) (mark m ∷ ts) (cond q (some (tt {0}) ts) none)
    go true e = record { it = (tt, ap (λ (x : ℕ). mark x ∷ ts) (eqb-true m b e)) }
    go false e = record { it = tt }
mark_spells b (other o ∷ ts) = record { it = tt }

abbrev pub Kind : ℕ → List ℕ → Type 0
Kind k w = kind_of w ≡ k

abbrev Worded : List ℕ → List Token
Worded w = word w ∷ []

pub word_spells : (k : ℕ) (ts : List Token) → Spells (Kind k) Worded ts (word_is k ts)
unfolding word_is
word_spells k [] = record { it = tt }
word_spells k (word w ∷ ts) = go (eqb (kind_of w) k) refl
  where
    go : (q : Bool) → eqb (kind_of w) k ≡ q → Spells (Kind k) Worded (word w ∷ ts) (cond q (some w ts) none)
    go true e = record { it = (eqb-true (kind_of w) k e, refl) }
    go false e = record { it = tt }
word_spells k (mark m ∷ ts) = record { it = tt }
word_spells k (other o ∷ ts) = record { it = tt }

-- the reserved word of the kind 1 + j
pub reserved-word : (j : ℕ) → j < 10 → (w : List ℕ) (ts us : List Token) → Kind (1 + j) w → ts ≡ word w ∷ us → ts ≡ word (get_or reserved j []) ∷ us
reserved-word j h w ts us g e = e ∙ ap (λ (x : List ℕ). word x ∷ us) (kind-word w j h g)

pub under : (t : Token) {us vs : List Token} → us ≡ vs → t ∷ us ≡ t ∷ vs
under t e = ap (λ (xs : List Token). t ∷ xs) e

-- one spelling after another
pub joined : (xs ys zs : List Token) {us vs : List Token} → us ≡ xs ++ vs → vs ≡ ys ++ zs → us ≡ (xs ++ ys) ++ zs
joined xs ys zs e h = e ∙ ap (λ (ws : List Token). xs ++ ws) h ∙ sym (append_assoc xs ys zs)

abbrev pub Placed : ℕ → Type 0
Placed n = (1 ≤ n) × (n ≤ 4)

abbrev Digit : ℕ → List Token
Digit n = word ((n + 48) ∷ []) ∷ []

pub place_spells : (ts : List Token) → Spells Placed Digit ts (place_is ts)
unfolding place_is
place_spells [] = record { it = tt }
place_spells (word w ∷ ts) = go (within 13 16 (kind_of w)) refl
  where
    go : (q : Bool) → within 13 16 (kind_of w) ≡ q → Spells Placed Digit (word w ∷ ts) (cond q (some (kind_of w - 12) ts) none)
    go true e =
        let lo : 13 ≤ kind_of w = leb-true 13 (kind_of w) (and_left (leb 13 (kind_of w)) (leb (kind_of w) 16) e) in
        let hi : kind_of w ≤ 16 = leb-true (kind_of w) 16 (and_right (leb 13 (kind_of w)) (leb (kind_of w) 16) e) in
        let d = kind_digit w (omega arith) in
        let n : kind_of w + 36 ≡ kind_of w - 12 + 48 = omega arith in
        record { it = ((omega arith, omega arith), ap (λ (x : List ℕ). word x ∷ ts) (d.1 ∙ ap (λ (b : ℕ). b ∷ []) n)) }
    go false e = record { it = tt }
place_spells (mark m ∷ ts) = record { it = tt }
place_spells (other o ∷ ts) = record { it = tt }
