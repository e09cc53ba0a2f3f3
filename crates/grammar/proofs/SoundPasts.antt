-- What the parsers of pasts give is valid and is spelled by the tokens that they read.
-- Assumes nothing.
use Rattle.std.proofs.Common.{◌≡◌, refl, ap, ◌∙◌, Bool, true, false, cond, List, [], ◌∷◌, ◌++◌, ℕ, zero, suc, eqb, eqb-true}
use Rattle.lexer.specs.Tokens.{Token, word, mark, other}
use Rattle.grammar.specs.Parsed.{some, map}
use Rattle.grammar.specs.AsRead.{only, single, beside, starred, nothing}
use Rattle.grammar.specs.Spell.{spell_stars, spell_past, spell_sequence, spell_factor, spell_base}
use Rattle.grammar.specs.Valid.{ValidPast, ValidSequence, ValidFactor, ValidBase}
use Rattle.grammar.specs.Parser.{stars_of, after_stars, begins, past_with, sequence_with, factor_with, base_with, past_of, sequence_of, factor_of, base_of}
use Rattle.grammar.proofs.Spells.{Spells, none_spells, some_spells, bind_spells, choose_spells, map_spells, when_spells}
use Rattle.grammar.proofs.SoundLeaves.{mark_spells, under, joined}
use Rattle.grammar.proofs.SoundPatterns.{pattern_sound}

stars_sound : (ts : List Token) → ts ≡ spell_stars (stars_of ts) ++ after_stars ts
unfolding stars_of after_stars spell_stars
stars_sound [] = refl
stars_sound (word w ∷ ts) = refl
stars_sound (mark m ∷ ts) = go (eqb m 42) refl (stars_sound ts)
  where
    go : (q : Bool) → eqb m 42 ≡ q → ts ≡ spell_stars (stars_of ts) ++ after_stars ts
        → mark m ∷ ts ≡ spell_stars (cond q (suc (stars_of ts)) 0) ++ cond q (after_stars ts) (mark m ∷ ts)
    go true e ih = ap (λ (x : ℕ). mark x ∷ ts) (eqb-true m 42 e) ∙ under (mark 42) ih
    go false e ih = refl
stars_sound (other o ∷ ts) = refl

mutual
  unfolding past_of past_with sequence_with factor_with base_with ValidPast spell_past

  pub past_sound : (f : ℕ) (ts : List Token) → Spells ValidPast spell_past ts (past_of f ts)
  past_sound zero ts = none_spells _ _ ts
  past_sound (suc f) ts =
      bind_spells _ _ (sequence_sound f ts) (λ q rest g e.
      choose_spells _ _ _ (mark_spells 43 rest)
      (λ a rest₂ g₂ e₂. map_spells _ _ (past_sound f rest₂) (λ p rest₃ g₃ e₃. (
        (g, g₃),
        joined (spell_sequence q) (mark 43 ∷ spell_past p) rest₃ e (e₂ ∙ under (mark 43) e₃),
      )))
      (some_spells _ _ ts (only q) rest g e))

  sequence_sound : (f : ℕ) (ts : List Token) → Spells ValidSequence spell_sequence ts (sequence_of f ts)
  sequence_sound zero ts = none_spells _ _ ts
  sequence_sound (suc f) ts =
      bind_spells _ _ (factor_sound f ts) (λ c rest g e.
      when_spells (begins rest) (map (beside c) (sequence_of f rest)) (some (single c) rest)
      (map_spells (beside c) (sequence_of f rest) (sequence_sound f rest) (λ q rest₂ g₂ e₂. (
        (g, g₂),
        joined (spell_factor c) (spell_sequence q) rest₂ e e₂,
      )))
      (some_spells _ _ ts (single c) rest g e))

  factor_sound : (f : ℕ) (ts : List Token) → Spells ValidFactor spell_factor ts (factor_of f ts)
  factor_sound zero ts = none_spells _ _ ts
  factor_sound (suc f) ts =
      bind_spells _ _ (base_sound f ts) (λ b rest g e.
      some_spells _ _ ts (starred b (stars_of rest)) (after_stars rest) g
      (joined (spell_base b) (spell_stars (stars_of rest)) (after_stars rest) e (stars_sound rest)))

  base_sound : (f : ℕ) (ts : List Token) → Spells ValidBase spell_base ts (base_of f ts)
  base_sound zero ts = none_spells _ _ ts
  base_sound (suc f) ts =
      choose_spells _ _ _ (mark_spells 40 ts)
      (λ a rest g e. choose_spells _ _ _ (mark_spells 41 rest)
      (λ a₂ rest₂ g₂ e₂. some_spells _ _ ts nothing rest₂ tt (e ∙ under (mark 40) e₂))
      (bind_spells _ _ (past_sound f rest) (λ p rest₂ g₂ e₂. map_spells _ _ (mark_spells 41 rest₂) (λ a₃ rest₃ g₃ e₃. (
        g₂,
        e ∙ under (mark 40) (joined (spell_past p) (mark 41 ∷ []) rest₃ e₂ e₃),
      )))))
      (map_spells _ _ (pattern_sound f ts) (λ p rest g e. (g, e)))
