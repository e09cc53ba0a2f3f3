-- A spelled past begins with the first token of a factor: any, <, ( or [.
-- Assumes nothing.
use Rattle.std.proofs.Common.{◌≡◌, refl, ap, Bool, true, false, cond, List, [], ◌∷◌, ◌++◌, append_assoc, ℕ, ◌+◌, ◌<◌, arith, eqb, length, length-append, eqb-true}
use Rattle.lexer.specs.Class.{among}
use Rattle.lexer.specs.Tokens.{Token, word, mark, other}
use Rattle.grammar.specs.Parsed.{none, some, mark_is}
use Rattle.grammar.specs.AsRead.{Simple, any_event, items, Pattern, plain, bracketed, Past, only, either, Sequence, single, beside, Factor, starred, Base, pattern, nothing, group}
use Rattle.grammar.specs.Spell.{spell_simple, spell_pattern, spell_stars, spell_past, spell_sequence, spell_factor, spell_base}
use Rattle.grammar.specs.Parser.{begins}
use Rattle.grammar.proofs.CompleteLeaves.{NoMark, kind-reserved}

begins-simple : (p : Simple) (rest : List Token) → begins (spell_simple p ++ rest) ≡ true
unfolding begins spell_simple
begins-simple any_event rest = rw (kind-reserved 3 (omega arith)) refl
begins-simple (items is) rest = refl

begins-pattern : (p : Pattern) (rest : List Token) → begins (spell_pattern p ++ rest) ≡ true
unfolding begins spell_pattern
begins-pattern (plain p) rest = begins-simple p rest
begins-pattern (bracketed c) rest = refl

begins_base : (b : Base) (rest : List Token) → begins (spell_base b ++ rest) ≡ true
unfolding begins spell_past
begins_base (pattern p) rest = begins-pattern p rest
begins_base nothing rest = refl
begins_base (group p) rest = refl

begins_factor : (c : Factor) (rest : List Token) → begins (spell_factor c ++ rest) ≡ true
unfolding spell_past
begins_factor (starred b n) rest = rw (append_assoc (spell_base b) (spell_stars n) rest) (begins_base b (spell_stars n ++ rest))

pub begins_sequence : (q : Sequence) (rest : List Token) → begins (spell_sequence q ++ rest) ≡ true
unfolding spell_past
begins_sequence (single c) rest = begins_factor c rest
begins_sequence (beside c q) rest = rw (append_assoc (spell_factor c) (spell_sequence q) rest) (begins_factor c (spell_sequence q ++ rest))

pub begins-past : (p : Past) (rest : List Token) → begins (spell_past p ++ rest) ≡ true
unfolding spell_past
begins-past (only q) rest = begins_sequence q rest
begins-past (either q p) rest = rw (append_assoc (spell_sequence q) (mark 43 ∷ spell_past p) rest) (begins_sequence q (mark 43 ∷ spell_past p ++ rest))

simple-some : (p : Simple) → 0 < length (spell_simple p)
unfolding spell_simple
simple-some any_event = omega arith
simple-some (items is) = omega arith

base_some : (b : Base) → 0 < length (spell_base b)
unfolding spell_past spell_pattern
base_some (pattern (plain p)) = simple-some p
base_some (pattern (bracketed c)) = omega arith
base_some nothing = omega arith
base_some (group p) = omega arith

pub factor_some : (c : Factor) → 0 < length (spell_factor c)
unfolding spell_past
factor_some (starred b n) =
    let m : length (spell_base b ++ spell_stars n) ≡ length (spell_base b) + length (spell_stars n) = length-append (spell_base b) (spell_stars n) in
    omega (arith, base_some b)

-- and then no other mark stands there
pub begins_no_mark : (b : ℕ) (ts : List Token) → begins ts ≡ true → among b (60 ∷ 40 ∷ 91 ∷ []) ≡ false → NoMark b ts
unfolding begins mark_is
begins_no_mark b [] h g = refl
begins_no_mark b (word w ∷ ts) h g = refl
begins_no_mark b (mark m ∷ ts) h g = go (eqb m b) refl
  where
    go : (q : Bool) → eqb m b ≡ q → cond q (some (tt {0}) ts) none ≡ none
    go true e =
        let e₁ : m ≡ b = eqb-true m b e in
        let e₂ : among m (60 ∷ 40 ∷ 91 ∷ []) ≡ among b (60 ∷ 40 ∷ 91 ∷ []) = ap (λ (x : ℕ). among x (60 ∷ 40 ∷ 91 ∷ [])) e₁ in
        let z : ◌≡◌ {A = ℕ} 0 1 = cc in absurd (omega arith)
    go false e = refl
begins_no_mark b (other o ∷ ts) h g = refl
