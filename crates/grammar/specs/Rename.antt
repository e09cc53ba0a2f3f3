-- The same tree with other names: from names as read to ids, and back.
-- Assumes nothing.
use Rattle.std.specs.Prelude.{[], ◌∷◌}
use Rattle.grammar.specs.Trees.{Item, exact, below, Items, close, star_close, item, Simple, any_event, items, Condition, term, or, Term, negate, simple, inside, Pattern, plain, bracketed, Past, only, either, Sequence, single, beside, Factor, starred, Base, pattern, nothing, group, named, place, Template, Response, pass, hold, send, anew}

-- form by form
unfoldable pub map_item : {M N : Type 0} → (M → N) → Item M → Item N
map_item f (exact w) = exact (f w)
map_item f (below w) = below (f w)

unfoldable pub map_items : {M N : Type 0} → (M → N) → Items M → Items N
map_items f close = close
map_items f star_close = star_close
map_items f (item i is) = item (map_item f i) (map_items f is)

unfoldable pub map_simple : {M N : Type 0} → (M → N) → Simple M → Simple N
map_simple f any_event = any_event
map_simple f (items is) = items (map_items f is)

unfoldable mutual
  pub map_condition : {M N : Type 0} → (M → N) → Condition M → Condition N
  map_condition f (term t) = term (map_term f t)
  map_condition f (or t c) = or (map_term f t) (map_condition f c)

  pub map_term : {M N : Type 0} → (M → N) → Term M → Term N
  map_term f (negate t) = negate (map_term f t)
  map_term f (simple p) = simple (map_simple f p)
  map_term f (inside c) = inside (map_condition f c)

unfoldable pub map_pattern : {M N : Type 0} → (M → N) → Pattern M → Pattern N
map_pattern f (plain p) = plain (map_simple f p)
map_pattern f (bracketed c) = bracketed (map_condition f c)

unfoldable mutual
  pub map_past : {M N : Type 0} → (M → N) → Past M → Past N
  map_past f (only q) = only (map_sequence f q)
  map_past f (either q p) = either (map_sequence f q) (map_past f p)

  pub map_sequence : {M N : Type 0} → (M → N) → Sequence M → Sequence N
  map_sequence f (single c) = single (map_factor f c)
  map_sequence f (beside c q) = beside (map_factor f c) (map_sequence f q)

  pub map_factor : {M N : Type 0} → (M → N) → Factor M → Factor N
  map_factor f (starred b n) = starred (map_base f b) n

  pub map_base : {M N : Type 0} → (M → N) → Base M → Base N
  map_base f (pattern p) = pattern (map_pattern f p)
  map_base f nothing = nothing
  map_base f (group p) = group (map_past f p)

unfoldable pub map_slots : {M N : Type 0} → (M → N) → Template M → Template N
map_slots f [] = []
map_slots f (named w ∷ xs) = named (f w) ∷ map_slots f xs
map_slots f (place n ∷ xs) = place n ∷ map_slots f xs

unfoldable pub map_response : {M N : Type 0} → (M → N) → Response M → Response N
map_response f pass = pass
map_response f hold = hold
map_response f (send xs) = send (map_slots f xs)
map_response f (anew xs) = anew (map_slots f xs)
