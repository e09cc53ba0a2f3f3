-- Two ways to change names that agree on the names of a tree give the same tree.
-- Assumes nothing.
use Rattle.std.proofs.Common.{◌≡◌, refl, ap, ap₂, [], ◌∷◌}
use Rattle.grammar.specs.Trees.{exact, below, Items, close, star_close, item, Simple, any_event, items, Condition, term, or, Term, negate, simple, inside, Pattern, plain, bracketed, Past, only, either, Sequence, single, beside, Factor, starred, Base, pattern, nothing, group, Template, named, place, Response, pass, hold, send, anew}
use Rattle.grammar.specs.Rename.{map_item, map_items, map_simple, map_condition, map_term, map_pattern, map_past, map_sequence, map_factor, map_base, map_slots, map_response}
use Rattle.grammar.specs.Names.{items_names, simple_names, condition_names, term_names, pattern_names, past_names, sequence_names, factor_names, base_names, slots_names, response_names}
use Rattle.common.specs.All.{All}
use Rattle.common.proofs.AllLaws.{all_left, all_right}

module _ {M N : Type 0} (f g : M → N) where
  abbrev pub Agree : M → Type 0
  Agree w = f w ≡ g w

  items_agree : (is : Items M) → All Agree (items_names is) → map_items f is ≡ map_items g is
  unfolding map_items map_item items_names
  items_agree close h = refl
  items_agree star_close h = refl
  items_agree (item (exact w) is) h = ap₂ (λ (v : N) (js : Items N). item (exact v) js) h.0 (items_agree is h.1)
  items_agree (item (below w) is) h = ap₂ (λ (v : N) (js : Items N). item (below v) js) h.0 (items_agree is h.1)

  simple_agree : (p : Simple M) → All Agree (simple_names p) → map_simple f p ≡ map_simple g p
  unfolding map_simple simple_names
  simple_agree any_event h = refl
  simple_agree (items is) h = ap items (items_agree is h)

  mutual
    unfolding map_condition map_term condition_names term_names

    condition_agree : (c : Condition M) → All Agree (condition_names c) → map_condition f c ≡ map_condition g c
    condition_agree (term t) h = ap term (term_agree t h)
    condition_agree (or t c) h = ap₂ or (term_agree t (all_left Agree (term_names t) (condition_names c) h)) (condition_agree c (all_right Agree (term_names t) (condition_names c) h))

    term_agree : (t : Term M) → All Agree (term_names t) → map_term f t ≡ map_term g t
    term_agree (negate t) h = ap negate (term_agree t h)
    term_agree (simple p) h = ap simple (simple_agree p h)
    term_agree (inside c) h = ap inside (condition_agree c h)

  pub pattern_agree : (p : Pattern M) → All Agree (pattern_names p) → map_pattern f p ≡ map_pattern g p
  unfolding map_pattern pattern_names
  pattern_agree (plain p) h = ap plain (simple_agree p h)
  pattern_agree (bracketed c) h = ap bracketed (condition_agree c h)

  mutual
    unfolding map_past map_sequence map_factor map_base past_names sequence_names factor_names base_names

    pub past_agree : (p : Past M) → All Agree (past_names p) → map_past f p ≡ map_past g p
    past_agree (only q) h = ap only (sequence_agree q h)
    past_agree (either q p) h = ap₂ either (sequence_agree q (all_left Agree (sequence_names q) (past_names p) h)) (past_agree p (all_right Agree (sequence_names q) (past_names p) h))

    sequence_agree : (q : Sequence M) → All Agree (sequence_names q) → map_sequence f q ≡ map_sequence g q
    sequence_agree (single c) h = ap single (factor_agree c h)
    sequence_agree (beside c q) h = ap₂ beside (factor_agree c (all_left Agree (factor_names c) (sequence_names q) h)) (sequence_agree q (all_right Agree (factor_names c) (sequence_names q) h))

    factor_agree : (c : Factor M) → All Agree (factor_names c) → map_factor f c ≡ map_factor g c
    factor_agree (starred b n) h = ap (λ (x : Base N). starred x n) (base_agree b h)

    base_agree : (b : Base M) → All Agree (base_names b) → map_base f b ≡ map_base g b
    base_agree (pattern p) h = ap pattern (pattern_agree p h)
    base_agree nothing h = refl
    base_agree (group p) h = ap group (past_agree p h)

  slots_agree : (xs : Template M) → All Agree (slots_names xs) → map_slots f xs ≡ map_slots g xs
  unfolding map_slots slots_names
  slots_agree [] h = refl
  slots_agree (named w ∷ xs) h = ap₂ (λ (v : N) (ys : Template N). named v ∷ ys) h.0 (slots_agree xs h.1)
  slots_agree (place n ∷ xs) h = ap (λ (ys : Template N). place n ∷ ys) (slots_agree xs h)

  pub response_agree : (x : Response M) → All Agree (response_names x) → map_response f x ≡ map_response g x
  unfolding map_response response_names
  response_agree pass h = refl
  response_agree hold h = refl
  response_agree (send xs) h = ap send (slots_agree xs h)
  response_agree (anew xs) h = ap anew (slots_agree xs h)
