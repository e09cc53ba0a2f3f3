-- What the parsers of slots, templates and responses give is valid and is spelled by the tokens that they read.
-- Assumes nothing.
use Rattle.std.proofs.Common.{◌≡◌, ◌∙◌, List, [], ◌∷◌, ℕ, zero, suc, arith}
use Rattle.lexer.specs.Words.{send_w, anew_w}
use Rattle.lexer.specs.Tokens.{Token, word, mark}
use Rattle.grammar.specs.Parsed.{Parsed, none, some}
use Rattle.grammar.specs.AsRead.{Slot, pass, hold}
use Rattle.grammar.specs.Spell.{spell_slot, spell_slots, spell_response}
use Rattle.grammar.specs.Valid.{ValidSlot, ValidSlots, ValidResponse}
use Rattle.grammar.specs.Parser.{slot_of, slots_of, template_of, response_of}
use Rattle.grammar.proofs.Spells.{Spells, some_spells, bind_spells, choose_spells, map_spells}
use Rattle.grammar.proofs.SoundLeaves.{mark_spells, word_spells, reserved-word, under, place_spells, joined}

slot_sound : (ts : List Token) → Spells ValidSlot spell_slot ts (slot_of ts)
unfolding slot_of ValidSlot spell_slot
slot_sound ts =
    choose_spells _ _ _ (mark_spells 35 ts) (λ a us g e. map_spells _ _ (place_spells us) (λ n vs g₂ e₂. (g₂, e ∙ under (mark 35) e₂)))
    (map_spells _ _ (word_spells 0 ts) (λ w us g e. (g, e)))

slots_sound : (k : ℕ) (ts : List Token) → Spells (ValidSlots k) spell_slots ts (slots_of k ts)
unfolding slots_of ValidSlots spell_slots
slots_sound zero ts = map_spells _ _ (mark_spells 62 ts) (λ a us g e. (tt, e))
slots_sound (suc k) ts =
    choose_spells _ _ _ (mark_spells 62 ts) (λ a us g e. some_spells _ _ ts [] us tt e)
    (bind_spells _ _ (slot_sound ts)
    (λ x us g e. map_spells _ _ (slots_sound k us) (λ xs vs g₂ e₂. ((g, g₂), joined (spell_slot x) (spell_slots xs) vs e e₂))))

abbrev spell_template : List Slot → List Token
spell_template xs = mark 60 ∷ spell_slots xs

template_sound : (ts : List Token) → Spells (ValidSlots 4) spell_template ts (template_of ts)
unfolding template_of
template_sound ts = bind_spells _ _ (mark_spells 60 ts) (λ a us g e. then us e (slots_of 4 us) (slots_sound 4 us))
  where
    then : (us : List Token) → ts ≡ mark 60 ∷ us → (p : Parsed (List Slot)) → Spells (ValidSlots 4) spell_slots us p → Spells (ValidSlots 4) spell_template ts p
    then us e none h = record { it = tt }
    then us e (some a rest) h = record { it = (h.it.0, e ∙ under (mark 60) h.it.1) }

pub response_sound : (ts : List Token) → Spells ValidResponse spell_response ts (response_of ts)
unfolding response_of ValidResponse spell_response
response_sound ts =
    choose_spells _ _ _ (word_spells 7 ts) (λ w us g e. some_spells _ _ ts pass us tt (reserved-word 6 (omega arith) w ts us g e))
    (choose_spells _ _ _ (word_spells 8 ts) (λ w us g e. some_spells _ _ ts hold us tt (reserved-word 7 (omega arith) w ts us g e))
    (choose_spells _ _ _ (word_spells 9 ts) (λ w us g e. map_spells _ _ (template_sound us) (λ xs vs g₂ e₂. (g₂, reserved-word 8 (omega arith) w ts us g e ∙ under (word send_w) e₂)))
    (bind_spells _ _ (word_spells 10 ts) (λ w us g e. map_spells _ _ (template_sound us) (λ xs vs g₂ e₂. (g₂, reserved-word 9 (omega arith) w ts us g e ∙ under (word anew_w) e₂))))))
