-- What the parsers of role lines, rule lines and events give is valid and is spelled by the tokens that they read.
-- Assumes nothing.
use Rattle.std.proofs.Common.{refl, ap, ◌∙◌, List, [], ◌∷◌, ℕ, zero, suc, arith}
use mathlib.Core.List.{map as map_list}
use Rattle.lexer.specs.Words.{role_w, under_w, rule_w}
use Rattle.lexer.specs.Tokens.{Token, word, mark}
use Rattle.grammar.specs.AsRead.{Pattern, Response}
use Rattle.grammar.specs.Spell.{spell_pattern, spell_past, spell_response, spell_line, spell_tail}
use Rattle.grammar.specs.Valid.{ValidPattern, ValidResponse, ValidNames, ValidLine}
use Rattle.grammar.specs.Parser.{role_of, head_of, tail_of, rule_of, names_of, event_of}
use Rattle.grammar.proofs.Spells.{Spells, some_spells, bind_spells, choose_spells, map_spells}
use Rattle.grammar.proofs.SoundLeaves.{mark_spells, Kind, word_spells, reserved-word, under, joined}
use Rattle.grammar.proofs.SoundPatterns.{pattern_sound}
use Rattle.grammar.proofs.SoundPasts.{past_sound}
use Rattle.grammar.proofs.SoundResponses.{response_sound}

pub role_sound : (ts : List Token) → Spells ValidLine spell_line ts (role_of ts)
unfolding role_of ValidLine spell_line
role_sound ts =
    bind_spells _ _ (word_spells 1 ts) (λ r us g e.
    bind_spells _ _ (word_spells 0 us) (λ w vs g₂ e₂.
    bind_spells _ _ (word_spells 2 vs) (λ u xs g₃ e₃.
    map_spells _ _ (word_spells 0 xs) (λ p ys g₄ e₄. (
      (g₂, g₄),
      reserved-word 0 (omega arith) r ts us g e ∙ under (word role_w) (e₂ ∙ under (word w) (reserved-word 1 (omega arith) u vs xs g₃ e₃ ∙ under (word under_w) e₄)),
    )))))

abbrev spell_head : List ℕ → List Token
spell_head w = word rule_w ∷ word w ∷ mark 58 ∷ []

head_sound : (ts : List Token) → Spells (Kind 0) spell_head ts (head_of ts)
unfolding head_of
head_sound ts =
    bind_spells _ _ (word_spells 3 ts) (λ r us g e.
    bind_spells _ _ (word_spells 0 us) (λ w vs g₂ e₂.
    map_spells _ _ (mark_spells 58 vs) (λ u xs g₃ e₃. (g₂, reserved-word 2 (omega arith) r ts us g e ∙ under (word rule_w) (e₂ ∙ under (word w) e₃)))))

abbrev ValidTail : Pattern × Response → Type 0
ValidTail t = ValidPattern t.0 × ValidResponse t.1

abbrev tail_spelled : Pattern × Response → List Token
tail_spelled t = spell_tail t.0 t.1

tail_sound : (f : ℕ) (ts : List Token) → Spells ValidTail tail_spelled ts (tail_of f ts)
unfolding tail_of spell_tail
tail_sound f ts =
    bind_spells _ _ (mark_spells 59 ts) (λ a us g e.
    bind_spells _ _ (pattern_sound f us) (λ p vs g₂ e₂.
    bind_spells _ _ (mark_spells 59 vs) (λ b xs g₃ e₃.
    map_spells _ _ (response_sound xs) (λ x ys g₄ e₄. (
      (g₂, g₄),
      e ∙ under (mark 59) (joined (spell_pattern p) (mark 59 ∷ spell_response x) ys e₂ (e₃ ∙ under (mark 59) e₄)),
    )))))

pub rule_sound : (f : ℕ) (ts : List Token) → Spells ValidLine spell_line ts (rule_of f ts)
unfolding rule_of ValidLine spell_line
rule_sound f ts =
    bind_spells _ _ (head_sound ts) (λ w us g e.
    bind_spells _ _ (past_sound f us) (λ p vs g₂ e₂.
    map_spells _ _ (tail_sound f vs) (λ t xs g₃ e₃. (
      (g, (g₂, g₃)),
      e ∙ ap (λ (zs : List Token). word rule_w ∷ word w ∷ mark 58 ∷ zs) (joined (spell_past p) (tail_spelled t) xs e₂ e₃),
    ))))

abbrev spell_names : List (List ℕ) → List Token
spell_names ws = map_list word ws

names_sound : (k : ℕ) (ts : List Token) → Spells (ValidNames k) spell_names ts (names_of k ts)
unfolding names_of ValidNames
names_sound zero ts = some_spells _ _ ts [] ts tt refl
names_sound (suc k) ts =
    choose_spells _ _ _ (word_spells 0 ts) (λ w us g e. map_spells _ _ (names_sound k us) (λ ws vs g₂ e₂. ((g, g₂), e ∙ under (word w) e₂)))
    (some_spells _ _ ts [] ts tt refl)

pub event_sound : (ts : List Token) → Spells ValidLine spell_line ts (event_of ts)
unfolding event_of ValidLine spell_line
event_sound ts = map_spells _ _ (names_sound 4 ts) (λ ws us g e. (g, e))
