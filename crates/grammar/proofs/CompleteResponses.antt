-- Each valid slot and response is read back from the tokens that spell it.
-- Assumes nothing.
use Rattle.std.proofs.Common.{◌≡◌, refl, arith, List, [], ◌∷◌, ◌++◌, append_assoc, ℕ, zero, suc}
use Rattle.lexer.specs.Tokens.{Token}
use Rattle.grammar.specs.Parsed.{some, mark_is, word_is}
use Rattle.grammar.specs.AsRead.{Slot, named, place, Response, pass, hold, send, anew}
use Rattle.grammar.specs.Spell.{spell_slot, spell_slots, spell_response}
use Rattle.grammar.specs.Valid.{ValidSlot, ValidSlots, ValidResponse}
use Rattle.grammar.specs.Parser.{slot_of, slots_of, template_of, response_of}
use Rattle.grammar.proofs.CompleteLeaves.{NoMark, word_read, place_read, kind-reserved}

slot_complete : (x : Slot) (rest : List Token) → ValidSlot x → slot_of (spell_slot x ++ rest) ≡ some x rest
unfolding ValidSlot slot_of spell_slot mark_is
slot_complete (named w) rest g = rw (word_read 0 w rest g) refl
slot_complete (place n) rest g = rw (place_read n rest g.0 g.1) refl

slot_open : (x : Slot) (rest : List Token) → NoMark 62 (spell_slot x ++ rest)
unfolding spell_slot mark_is
slot_open (named w) rest = refl
slot_open (place n) rest = refl

slots_step : (k : ℕ) (x : Slot) (xs : List Slot) (rest : List Token) → ValidSlot x → slots_of k (spell_slots xs ++ rest) ≡ some xs rest
    → slots_of (suc k) ((spell_slot x ++ spell_slots xs) ++ rest) ≡ some (x ∷ xs) rest
unfolding slots_of
slots_step k x xs rest g h =
    rw (append_assoc (spell_slot x) (spell_slots xs) rest, slot_open x (spell_slots xs ++ rest), slot_complete x (spell_slots xs ++ rest) g, h) refl

slots_complete : (k : ℕ) (xs : List Slot) (rest : List Token) → ValidSlots k xs → slots_of k (spell_slots xs ++ rest) ≡ some xs rest
unfolding ValidSlots slots_of spell_slots mark_is
slots_complete zero [] rest g = refl
slots_complete (suc k) [] rest g = refl
slots_complete zero (x ∷ xs) rest g = absurd g
slots_complete (suc k) (x ∷ xs) rest g = slots_step k x xs rest g.0 (slots_complete k xs rest g.1)

pub response_complete : (x : Response) (rest : List Token) → ValidResponse x → response_of (spell_response x ++ rest) ≡ some x rest
unfolding ValidResponse response_of template_of spell_response mark_is word_is
response_complete pass rest g = rw (kind-reserved 6 (omega arith)) refl
response_complete hold rest g = rw (kind-reserved 7 (omega arith)) refl
response_complete (send xs) rest g = rw (kind-reserved 8 (omega arith), slots_complete 4 xs rest g) refl
response_complete (anew xs) rest g = rw (kind-reserved 9 (omega arith), slots_complete 4 xs rest g) refl
