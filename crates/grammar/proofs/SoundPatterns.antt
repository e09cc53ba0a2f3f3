-- What the parsers of items, conditions and patterns give is valid and is spelled by the tokens that they read.
-- Assumes nothing.
use Rattle.std.proofs.Common.{◌∙◌, List, [], ◌∷◌, ℕ, zero, suc, arith}
use Rattle.lexer.specs.Words.{not_w, or_w}
use Rattle.lexer.specs.Tokens.{Token, word, mark}
use Rattle.grammar.specs.AsRead.{close, term}
use Rattle.grammar.specs.Spell.{spell_item, spell_items, spell_simple, spell_condition, spell_term, spell_pattern}
use Rattle.grammar.specs.Valid.{ValidItem, ValidItems, ValidSimple, ValidCondition, ValidTerm, ValidPattern}
use Rattle.grammar.specs.Parser.{item_of, open_of, items_of, simple_of, condition_with, term_with, condition_of, term_of, pattern_of}
use Rattle.grammar.proofs.Spells.{Spells, none_spells, some_spells, bind_spells, choose_spells, map_spells}
use Rattle.grammar.proofs.SoundLeaves.{mark_spells, word_spells, reserved-word, under, joined}

item_sound : (ts : List Token) → Spells ValidItem spell_item ts (item_of ts)
unfolding item_of ValidItem spell_item
item_sound ts =
    choose_spells _ _ _ (mark_spells 43 ts) (λ a us g e. map_spells _ _ (word_spells 0 us) (λ w vs g₂ e₂. (g₂, e ∙ under (mark 43) e₂)))
    (map_spells _ _ (word_spells 0 ts) (λ w us g e. (g, e)))

open_sound : (k : ℕ) (ts : List Token) → Spells (ValidItems k) spell_items ts (open_of ts)
unfolding open_of ValidItems spell_items
open_sound k ts = bind_spells _ _ (mark_spells 42 ts) (λ a us g e. map_spells _ _ (mark_spells 62 us) (λ b vs g₂ e₂. (tt, e ∙ under (mark 42) e₂)))

items_sound : (k : ℕ) (ts : List Token) → Spells (ValidItems k) spell_items ts (items_of k ts)
unfolding items_of ValidItems spell_items
items_sound zero ts = choose_spells _ _ _ (mark_spells 62 ts) (λ a us g e. some_spells _ _ ts close us tt e) (open_sound zero ts)
items_sound (suc k) ts =
    choose_spells _ _ _ (mark_spells 62 ts) (λ a us g e. some_spells _ _ ts close us tt e)
    (choose_spells _ _ _ (item_sound ts)
    (λ i us g e. map_spells _ _ (items_sound k us) (λ is vs g₂ e₂. ((g, g₂), joined (spell_item i) (spell_items is) vs e e₂)))
    (open_sound (suc k) ts))

simple_sound : (ts : List Token) → Spells ValidSimple spell_simple ts (simple_of ts)
unfolding simple_of ValidSimple spell_simple
simple_sound ts =
    choose_spells _ _ _ (mark_spells 60 ts) (λ a us g e. map_spells _ _ (items_sound 4 us) (λ is vs g₂ e₂. (g₂, e ∙ under (mark 60) e₂)))
    (map_spells _ _ (word_spells 4 ts) (λ w us g e. (tt, reserved-word 3 (omega arith) w ts us g e)))

mutual
  unfolding condition_of condition_with term_with ValidCondition spell_condition

  condition_sound : (f : ℕ) (ts : List Token) → Spells ValidCondition spell_condition ts (condition_of f ts)
  condition_sound zero ts = none_spells _ _ ts
  condition_sound (suc f) ts =
      bind_spells _ _ (term_sound f ts) (λ t us g e.
      choose_spells _ _ _ (word_spells 6 us)
      (λ w vs g₂ e₂. map_spells _ _ (condition_sound f vs) (λ c xs g₃ e₃. (
        (g, g₃),
        joined (spell_term t) (word or_w ∷ spell_condition c) xs e (reserved-word 5 (omega arith) w us vs g₂ e₂ ∙ under (word or_w) e₃),
      )))
      (some_spells _ _ ts (term t) us g e))

  term_sound : (f : ℕ) (ts : List Token) → Spells ValidTerm spell_term ts (term_of f ts)
  term_sound zero ts = none_spells _ _ ts
  term_sound (suc f) ts =
      choose_spells _ _ _ (word_spells 5 ts) (λ w us g e. map_spells _ _ (term_sound f us) (λ t vs g₂ e₂. (g₂, reserved-word 4 (omega arith) w ts us g e ∙ under (word not_w) e₂)))
      (choose_spells _ _ _ (mark_spells 40 ts)
      (λ a us g e. bind_spells _ _ (condition_sound f us) (λ c vs g₂ e₂. map_spells _ _ (mark_spells 41 vs) (λ b xs g₃ e₃. (
        g₂,
        e ∙ under (mark 40) (joined (spell_condition c) (mark 41 ∷ []) xs e₂ e₃),
      ))))
      (map_spells _ _ (simple_sound ts) (λ p us g e. (g, e))))

pub pattern_sound : (f : ℕ) (ts : List Token) → Spells ValidPattern spell_pattern ts (pattern_of f ts)
unfolding pattern_of ValidPattern spell_pattern
pattern_sound f ts =
    choose_spells _ _ _ (mark_spells 91 ts)
    (λ a us g e. bind_spells _ _ (condition_sound f us) (λ c vs g₂ e₂. map_spells _ _ (mark_spells 93 vs) (λ b xs g₃ e₃. (
      g₂,
      e ∙ under (mark 91) (joined (spell_condition c) (mark 93 ∷ []) xs e₂ e₃),
    ))))
    (map_spells _ _ (simple_sound ts) (λ p us g e. (g, e)))
