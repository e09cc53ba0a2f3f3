-- Names changed and changed back: a tree is as it was where each of its names is.
-- Assumes nothing.
use Rattle.std.proofs.Common.{◌≡◌, refl, ap, ap₂, [], ◌∷◌}
use Rattle.grammar.specs.Trees.{exact, below, Items, close, star_close, item, Simple, any_event, items, Condition, term, or, Term, negate, simple, inside, Pattern, plain, bracketed, Past, only, either, Sequence, single, beside, Factor, starred, Base, pattern, nothing, group, Template, named, place, Response, pass, hold, send, anew}
use Rattle.grammar.specs.Rename.{map_item, map_items, map_simple, map_condition, map_term, map_pattern, map_past, map_sequence, map_factor, map_base, map_slots, map_response}
use Rattle.grammar.specs.Names.{items_names, simple_names, condition_names, term_names, pattern_names, past_names, sequence_names, factor_names, base_names, slots_names, response_names}
use Rattle.common.specs.All.{All}
use Rattle.common.proofs.AllLaws.{all_left, all_right}

module _ {M N : Type 0} (f : M → N) (g : N → M) where
  abbrev pub Back : M → Type 0
  Back w = g (f w) ≡ w

  items_back : (is : Items M) → All Back (items_names is) → map_items g (map_items f is) ≡ is
  unfolding map_items map_item items_names
  items_back close h = refl
  items_back star_close h = refl
  items_back (item (exact w) is) h = ap₂ (λ (v : M) (js : Items M). item (exact v) js) h.0 (items_back is h.1)
  items_back (item (below w) is) h = ap₂ (λ (v : M) (js : Items M). item (below v) js) h.0 (items_back is h.1)

  simple_back : (p : Simple M) → All Back (simple_names p) → map_simple g (map_simple f p) ≡ p
  unfolding map_simple simple_names
  simple_back any_event h = refl
  simple_back (items is) h = ap items (items_back is h)

  mutual
    unfolding map_condition map_term condition_names term_names

    condition_back : (c : Condition M) → All Back (condition_names c) → map_condition g (map_condition f c) ≡ c
    condition_back (term t) h = ap term (term_back t h)
    condition_back (or t c) h = ap₂ or (term_back t (all_left Back (term_names t) (condition_names c) h)) (condition_back c (all_right Back (term_names t) (condition_names c) h))

    term_back : (t : Term M) → All Back (term_names t) → map_term g (map_term f t) ≡ t
    term_back (negate t) h = ap negate (term_back t h)
    term_back (simple p) h = ap simple (simple_back p h)
    term_back (inside c) h = ap inside (condition_back c h)

  pub pattern_back : (p : Pattern M) → All Back (pattern_names p) → map_pattern g (map_pattern f p) ≡ p
  unfolding map_pattern pattern_names
  pattern_back (plain p) h = ap plain (simple_back p h)
  pattern_back (bracketed c) h = ap bracketed (condition_back c h)

  mutual
    unfolding map_past map_sequence map_factor map_base past_names sequence_names factor_names base_names

    pub past_back : (p : Past M) → All Back (past_names p) → map_past g (map_past f p) ≡ p
    past_back (only q) h = ap only (sequence_back q h)
    past_back (either q p) h = ap₂ either (sequence_back q (all_left Back (sequence_names q) (past_names p) h)) (past_back p (all_right Back (sequence_names q) (past_names p) h))

    sequence_back : (q : Sequence M) → All Back (sequence_names q) → map_sequence g (map_sequence f q) ≡ q
    sequence_back (single c) h = ap single (factor_back c h)
    sequence_back (beside c q) h = ap₂ beside (factor_back c (all_left Back (factor_names c) (sequence_names q) h)) (sequence_back q (all_right Back (factor_names c) (sequence_names q) h))

    factor_back : (c : Factor M) → All Back (factor_names c) → map_factor g (map_factor f c) ≡ c
    factor_back (starred b n) h = ap (λ (x : Base M). starred x n) (base_back b h)

    base_back : (b : Base M) → All Back (base_names b) → map_base g (map_base f b) ≡ b
    base_back (pattern p) h = ap pattern (pattern_back p h)
    base_back nothing h = refl
    base_back (group p) h = ap group (past_back p h)

  slots_back : (xs : Template M) → All Back (slots_names xs) → map_slots g (map_slots f xs) ≡ xs
  unfolding map_slots slots_names
  slots_back [] h = refl
  slots_back (named w ∷ xs) h = ap₂ (λ (v : M) (ys : Template M). named v ∷ ys) h.0 (slots_back xs h.1)
  slots_back (place n ∷ xs) h = ap (λ (ys : Template M). place n ∷ ys) (slots_back xs h)

  pub response_back : (x : Response M) → All Back (response_names x) → map_response g (map_response f x) ≡ x
  unfolding map_response response_names
  response_back pass h = refl
  response_back hold h = refl
  response_back (send xs) h = ap send (slots_back xs h)
  response_back (anew xs) h = ap anew (slots_back xs h)
