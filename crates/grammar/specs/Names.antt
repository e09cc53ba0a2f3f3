-- The roles that a tree names, from the left: refusal 6, "a role used (as parent, item, slot or in an act)".
-- Assumes nothing.
use Rattle.std.specs.Prelude.{List, [], ◌∷◌, ◌++◌}
use Rattle.grammar.specs.Trees.{exact, below, Items, close, star_close, item, Simple, any_event, items, Condition, term, or, Term, negate, simple, inside, Pattern, plain, bracketed, Past, only, either, Sequence, single, beside, Factor, starred, Base, pattern, nothing, group, named, place, Template, Response, pass, hold, send, anew}

-- as items
unfoldable pub items_names : {N : Type 0} → Items N → List N
items_names close = []
items_names star_close = []
items_names (item (exact w) is) = w ∷ items_names is
items_names (item (below w) is) = w ∷ items_names is

unfoldable pub simple_names : {N : Type 0} → Simple N → List N
simple_names any_event = []
simple_names (items is) = items_names is

unfoldable mutual
  pub condition_names : {N : Type 0} → Condition N → List N
  condition_names (term t) = term_names t
  condition_names (or t c) = term_names t ++ condition_names c

  pub term_names : {N : Type 0} → Term N → List N
  term_names (negate t) = term_names t
  term_names (simple p) = simple_names p
  term_names (inside c) = condition_names c

unfoldable pub pattern_names : {N : Type 0} → Pattern N → List N
pattern_names (plain p) = simple_names p
pattern_names (bracketed c) = condition_names c

unfoldable mutual
  pub past_names : {N : Type 0} → Past N → List N
  past_names (only q) = sequence_names q
  past_names (either q p) = sequence_names q ++ past_names p

  pub sequence_names : {N : Type 0} → Sequence N → List N
  sequence_names (single c) = factor_names c
  sequence_names (beside c q) = factor_names c ++ sequence_names q

  pub factor_names : {N : Type 0} → Factor N → List N
  factor_names (starred b n) = base_names b

  pub base_names : {N : Type 0} → Base N → List N
  base_names (pattern p) = pattern_names p
  base_names nothing = []
  base_names (group p) = past_names p

-- as slots
unfoldable pub slots_names : {N : Type 0} → Template N → List N
slots_names [] = []
slots_names (named w ∷ xs) = w ∷ slots_names xs
slots_names (place n ∷ xs) = slots_names xs

unfoldable pub response_names : {N : Type 0} → Response N → List N
response_names pass = []
response_names hold = []
response_names (send xs) = slots_names xs
response_names (anew xs) = slots_names xs

-- the items and slots of a rule
unfoldable pub rule_names : {N : Type 0} → Past N → Pattern N → Response N → List N
rule_names p t x = past_names p ++ (pattern_names t ++ response_names x)
