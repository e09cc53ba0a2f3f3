-- How each form of the rule language is spelled in tokens. Document 01, "The rule language". Marks stand by their bytes:
-- # 35, ( 40, ) 41, * 42, + 43, : 58, ; 59, < 60, > 62, [ 91, ] 93.
-- Assumes nothing.
use Rattle.std.specs.Prelude.{ℕ, zero, suc, ◌+◌, List, [], ◌∷◌, ◌++◌, map}
use Rattle.lexer.specs.Words.{role_w, under_w, rule_w, any_w, not_w, or_w, pass_w, hold_w, send_w, anew_w}
use Rattle.lexer.specs.Tokens.{Token, word, mark}
use Rattle.grammar.specs.AsRead.{Item, exact, below, Items, close, star_close, item, Simple, any_event, items, Condition, term, or, Term, negate, simple, inside, Pattern, plain, bracketed, Past, only, either, Sequence, single, beside, Factor, starred, Base, pattern, nothing, group, Slot, named, place, Template, Response, pass, hold, send, anew, Line, role, rule, event}

-- "a name (that role) or `+` and a name"
unfoldable pub spell_item : Item → List Token
spell_item (exact w) = word w ∷ []
spell_item (below w) = mark 43 ∷ word w ∷ []

-- items, "an optional `*`, `>`"
unfoldable pub spell_items : Items → List Token
spell_items close = mark 62 ∷ []
spell_items star_close = mark 42 ∷ mark 62 ∷ []
spell_items (item i is) = spell_item i ++ spell_items is

-- "any, or `<`, zero to four items, an optional `*`, `>`"
unfoldable pub spell_simple : Simple → List Token
spell_simple any_event = word any_w ∷ []
spell_simple (items is) = mark 60 ∷ spell_items is

unfoldable mutual
  -- "one or more terms joined by the word or"
  pub spell_condition : Condition → List Token
  spell_condition (term t) = spell_term t
  spell_condition (or t c) = spell_term t ++ (word or_w ∷ spell_condition c)

  -- "not with a term after it, a simple pattern, or a condition in round brackets"
  pub spell_term : Term → List Token
  spell_term (negate t) = word not_w ∷ spell_term t
  spell_term (simple p) = spell_simple p
  spell_term (inside c) = mark 40 ∷ (spell_condition c ++ (mark 41 ∷ []))

-- "a simple pattern, or a condition in square brackets"
unfoldable pub spell_pattern : Pattern → List Token
spell_pattern (plain p) = spell_simple p
spell_pattern (bracketed c) = mark 91 ∷ (spell_condition c ++ (mark 93 ∷ []))

-- "any number of `*`"
unfoldable pub spell_stars : ℕ → List Token
spell_stars zero = []
spell_stars (suc n) = mark 42 ∷ spell_stars n

unfoldable mutual
  -- "one or more sequences joined by `+`"
  pub spell_past : Past → List Token
  spell_past (only q) = spell_sequence q
  spell_past (either q p) = spell_sequence q ++ (mark 43 ∷ spell_past p)

  -- "one or more factors side by side"
  pub spell_sequence : Sequence → List Token
  spell_sequence (single c) = spell_factor c
  spell_sequence (beside c q) = spell_factor c ++ spell_sequence q

  -- "a base followed by any number of `*`"
  pub spell_factor : Factor → List Token
  spell_factor (starred b n) = spell_base b ++ spell_stars n

  -- "a pattern, or `()`, or a past in round brackets"
  pub spell_base : Base → List Token
  spell_base (pattern p) = spell_pattern p
  spell_base nothing = mark 40 ∷ mark 41 ∷ []
  spell_base (group p) = mark 40 ∷ (spell_past p ++ (mark 41 ∷ []))

-- "a name or `#` and one of 1 2 3 4": 48 is the digit 0
unfoldable pub spell_slot : Slot → List Token
spell_slot (named w) = word w ∷ []
spell_slot (place n) = mark 35 ∷ word ((n + 48) ∷ []) ∷ []

-- slots and "`>`"
unfoldable pub spell_slots : Template → List Token
spell_slots [] = mark 62 ∷ []
spell_slots (x ∷ xs) = spell_slot x ++ spell_slots xs

-- "pass, hold, or send or anew with a template"; "A template is `<`, zero to four slots, `>`"
unfoldable pub spell_response : Response → List Token
spell_response pass = word pass_w ∷ []
spell_response hold = word hold_w ∷ []
spell_response (send xs) = word send_w ∷ mark 60 ∷ spell_slots xs
spell_response (anew xs) = word anew_w ∷ mark 60 ∷ spell_slots xs

-- what follows the past: "`;`, a pattern (the trigger), `;`, a response"
unfoldable pub spell_tail : Pattern → Response → List Token
spell_tail t x = mark 59 ∷ (spell_pattern t ++ (mark 59 ∷ spell_response x))

-- "role, a name, under, a name"; "rule, a name, `:`, a past, `;`, a pattern (the trigger), `;`, a response"; "zero to four names"
unfoldable pub spell_line : Line → List Token
spell_line (role w p) = word role_w ∷ word w ∷ word under_w ∷ word p ∷ []
spell_line (rule w p t x) = word rule_w ∷ word w ∷ mark 58 ∷ (spell_past p ++ spell_tail t x)
spell_line (event ws) = map word ws
