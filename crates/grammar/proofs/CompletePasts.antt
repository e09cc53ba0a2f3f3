-- Each valid past is read back from the tokens that spell it, where what follows does not go on with it.
-- Assumes nothing.
use Rattle.std.proofs.Common.{◌≡◌, refl, ap, Bool, true, false, cond, List, [], ◌∷◌, ◌++◌, append_assoc, ℕ, zero, suc, ◌+◌, ◌*◌, ◌<◌, arith, eqb, length, length-append}
use Rattle.lexer.specs.Tokens.{Token, word, mark, other}
use Rattle.grammar.specs.Parsed.{none, some, mark_is}
use Rattle.grammar.specs.AsRead.{Pattern, plain, bracketed, Past, only, either, Sequence, single, beside, Factor, starred, Base, pattern, nothing, group}
use Rattle.grammar.specs.Spell.{spell_pattern, spell_stars, spell_past, spell_sequence, spell_factor, spell_base}
use Rattle.grammar.specs.Valid.{ValidPast, ValidSequence, ValidFactor, ValidBase}
use Rattle.grammar.specs.Parser.{stars_of, after_stars, begins, past_with, sequence_with, factor_with, base_with, past_of, sequence_of, factor_of, base_of}
use Rattle.grammar.proofs.CompleteLeaves.{NoMark}
use Rattle.grammar.proofs.CompletePatterns.{simple_no_mark, pattern_complete}
use Rattle.grammar.proofs.CompleteBegins.{begins_sequence, begins-past, factor_some, begins_no_mark}

no_stars : (ts : List Token) → NoMark 42 ts → (stars_of ts ≡ 0) × (after_stars ts ≡ ts)
unfolding mark_is stars_of after_stars
no_stars [] h = (refl, refl)
no_stars (word w ∷ ts) h = (refl, refl)
no_stars (mark m ∷ ts) h = go (eqb m 42) h
  where
    go : (q : Bool) → cond q (some (tt {0}) ts) none ≡ none → (cond q (suc (stars_of ts)) 0 ≡ 0) × (cond q (after_stars ts) (mark m ∷ ts) ≡ mark m ∷ ts)
    go true h = let z : ◌≡◌ {A = ℕ} 0 1 = cc in absurd (omega arith)
    go false h = (refl, refl)
no_stars (other o ∷ ts) h = (refl, refl)

stars_complete : (n : ℕ) (rest : List Token) → NoMark 42 rest → (stars_of (spell_stars n ++ rest) ≡ n) × (after_stars (spell_stars n ++ rest) ≡ rest)
unfolding stars_of after_stars spell_stars
stars_complete zero rest h = no_stars rest h
stars_complete (suc n) rest h = let i = stars_complete n rest h in (ap suc i.0, i.1)

pattern_no_bracket : (p : Pattern) (rest : List Token) → NoMark 40 (spell_pattern p ++ rest)
unfolding spell_pattern mark_is
pattern_no_bracket (plain p) rest = simple_no_mark 40 p rest refl
pattern_no_bracket (bracketed c) rest = refl

mutual
  unfolding past_of past_with sequence_with factor_with base_with ValidPast spell_past mark_is begins

  pub past_complete : (t : Past) (rest : List Token) (f : ℕ) → ValidPast t → NoMark 43 rest → NoMark 42 rest → begins rest ≡ false
      → length (spell_past t) * 8 + 6 < f → past_of f (spell_past t ++ rest) ≡ some t rest
  past_complete (only q) rest zero g h₃ h₂ b l = absurd (omega arith)
  past_complete (only q) rest (suc f) g h₃ h₂ b l = rw (sequence_complete q rest f g h₂ b (omega arith), h₃) refl
  past_complete (either q p) rest zero g h₃ h₂ b l = absurd (omega arith)
  past_complete (either q p) rest (suc f) g h₃ h₂ b l =
      let n : length (spell_sequence q ++ (mark 43 ∷ spell_past p)) ≡ length (spell_sequence q) + suc (length (spell_past p)) = length-append (spell_sequence q) (mark 43 ∷ spell_past p) in
      rw (
        append_assoc (spell_sequence q) (mark 43 ∷ spell_past p) rest,
        sequence_complete q (mark 43 ∷ (spell_past p ++ rest)) f g.0 refl refl (omega arith),
        past_complete p rest f g.1 h₃ h₂ b (omega arith),
      ) refl

  sequence_complete : (q : Sequence) (rest : List Token) (f : ℕ) → ValidSequence q → NoMark 42 rest → begins rest ≡ false
      → length (spell_sequence q) * 8 + 5 < f → sequence_of f (spell_sequence q ++ rest) ≡ some q rest
  sequence_complete (single c) rest zero g h₂ b l = absurd (omega arith)
  sequence_complete (single c) rest (suc f) g h₂ b l = rw (factor_complete c rest f g h₂ (omega arith), b) refl
  sequence_complete (beside c q) rest zero g h₂ b l = absurd (omega arith)
  sequence_complete (beside c q) rest (suc f) g h₂ b l =
      let n : length (spell_factor c ++ spell_sequence q) ≡ length (spell_factor c) + length (spell_sequence q) = length-append (spell_factor c) (spell_sequence q) in
      let z : 0 < length (spell_factor c) = factor_some c in
      rw (
        append_assoc (spell_factor c) (spell_sequence q) rest,
        factor_complete c (spell_sequence q ++ rest) f g.0 (begins_no_mark 42 (spell_sequence q ++ rest) (begins_sequence q rest) refl) (omega arith),
        begins_sequence q rest,
        sequence_complete q rest f g.1 h₂ b (omega arith),
      ) refl

  factor_complete : (c : Factor) (rest : List Token) (f : ℕ) → ValidFactor c → NoMark 42 rest
      → length (spell_factor c) * 8 + 4 < f → factor_of f (spell_factor c ++ rest) ≡ some c rest
  factor_complete (starred b n) rest zero g h₂ l = absurd (omega arith)
  factor_complete (starred b n) rest (suc f) g h₂ l =
      let m : length (spell_base b ++ spell_stars n) ≡ length (spell_base b) + length (spell_stars n) = length-append (spell_base b) (spell_stars n) in
      rw (
        append_assoc (spell_base b) (spell_stars n) rest,
        base_complete b (spell_stars n ++ rest) f g (omega arith),
        (stars_complete n rest h₂).0,
        (stars_complete n rest h₂).1,
      ) refl

  base_complete : (b : Base) (rest : List Token) (f : ℕ) → ValidBase b → length (spell_base b) * 8 + 3 < f → base_of f (spell_base b ++ rest) ≡ some b rest
  base_complete (pattern p) rest zero g l = absurd (omega arith)
  base_complete (pattern p) rest (suc f) g l = rw (pattern_no_bracket p rest, pattern_complete p rest f g (omega arith)) refl
  base_complete nothing rest zero g l = absurd (omega arith)
  base_complete nothing rest (suc f) g l = refl
  base_complete (group p) rest zero g l = absurd (omega arith)
  base_complete (group p) rest (suc f) g l =
      let n : length (spell_past p ++ (mark 41 ∷ [])) ≡ length (spell_past p) + 1 = length-append (spell_past p) (mark 41 ∷ []) in
      rw (
        append_assoc (spell_past p) (mark 41 ∷ []) rest,
        begins_no_mark 41 (spell_past p ++ (mark 41 ∷ rest)) (begins-past p (mark 41 ∷ rest)) refl,
        past_complete p (mark 41 ∷ rest) f g refl refl refl (omega arith),
      ) refl
