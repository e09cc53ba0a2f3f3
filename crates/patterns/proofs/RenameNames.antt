-- The names of a tree with other names are the other names of its names: what holds of all names as read holds of all ids, and so on.
-- Assumes nothing.
use Rattle.std.proofs.Common.{[], ◌∷◌}
use Rattle.grammar.specs.Trees.{exact, below, Items, close, star_close, item, Simple, any_event, items, Condition, term, or, Term, negate, simple, inside, Pattern, plain, bracketed, Past, only, either, Sequence, single, beside, Factor, starred, Base, pattern, nothing, group, Template, named, place, Response, pass, hold, send, anew}
use Rattle.grammar.specs.Rename.{map_item, map_items, map_simple, map_condition, map_term, map_pattern, map_past, map_sequence, map_factor, map_base, map_slots, map_response}
use Rattle.grammar.specs.Names.{items_names, simple_names, condition_names, term_names, pattern_names, past_names, sequence_names, factor_names, base_names, slots_names, response_names}
use Rattle.common.specs.All.{All}
use Rattle.common.proofs.AllLaws.{all_append, all_left, all_right}

module _ {M N : Type 0} (f : M → N) (P : M → Type 0) (Q : N → Type 0) (one : (w : M) → P w → Q (f w)) where
  items-all : (is : Items M) → All P (items_names is) → All Q (items_names (map_items f is))
  unfolding map_items map_item items_names
  items-all close h = tt
  items-all star_close h = tt
  items-all (item (exact w) is) h = (one w h.0, items-all is h.1)
  items-all (item (below w) is) h = (one w h.0, items-all is h.1)

  simple-all : (p : Simple M) → All P (simple_names p) → All Q (simple_names (map_simple f p))
  unfolding map_simple simple_names
  simple-all any_event h = tt
  simple-all (items is) h = items-all is h

  mutual
    unfolding map_condition map_term condition_names term_names

    condition_all : (c : Condition M) → All P (condition_names c) → All Q (condition_names (map_condition f c))
    condition_all (term t) h = term-all t h
    condition_all (or t c) h =
        all_append Q (term_names (map_term f t)) (condition_names (map_condition f c)) (term-all t (all_left P (term_names t) (condition_names c) h)) (condition_all c (all_right P (term_names t) (condition_names c) h))

    term-all : (t : Term M) → All P (term_names t) → All Q (term_names (map_term f t))
    term-all (negate t) h = term-all t h
    term-all (simple p) h = simple-all p h
    term-all (inside c) h = condition_all c h

  pub pattern-all : (p : Pattern M) → All P (pattern_names p) → All Q (pattern_names (map_pattern f p))
  unfolding map_pattern pattern_names
  pattern-all (plain p) h = simple-all p h
  pattern-all (bracketed c) h = condition_all c h

  mutual
    unfolding map_past map_sequence map_factor map_base past_names sequence_names factor_names base_names

    pub past_all : (p : Past M) → All P (past_names p) → All Q (past_names (map_past f p))
    past_all (only q) h = sequence_all q h
    past_all (either q p) h = all_append Q (sequence_names (map_sequence f q)) (past_names (map_past f p)) (sequence_all q (all_left P (sequence_names q) (past_names p) h)) (past_all p (all_right P (sequence_names q) (past_names p) h))

    sequence_all : (q : Sequence M) → All P (sequence_names q) → All Q (sequence_names (map_sequence f q))
    sequence_all (single c) h = factor_all c h
    sequence_all (beside c q) h = all_append Q (factor_names (map_factor f c)) (sequence_names (map_sequence f q)) (factor_all c (all_left P (factor_names c) (sequence_names q) h)) (sequence_all q (all_right P (factor_names c) (sequence_names q) h))

    factor_all : (c : Factor M) → All P (factor_names c) → All Q (factor_names (map_factor f c))
    factor_all (starred b n) h = base_all b h

    base_all : (b : Base M) → All P (base_names b) → All Q (base_names (map_base f b))
    base_all (pattern p) h = pattern-all p h
    base_all nothing h = tt
    base_all (group p) h = past_all p h

  slots_all : (xs : Template M) → All P (slots_names xs) → All Q (slots_names (map_slots f xs))
  unfolding map_slots slots_names
  slots_all [] h = tt
  slots_all (named w ∷ xs) h = (one w h.0, slots_all xs h.1)
  slots_all (place n ∷ xs) h = slots_all xs h

  pub response-all : (x : Response M) → All P (response_names x) → All Q (response_names (map_response f x))
  unfolding map_response response_names
  response-all pass h = tt
  response-all hold h = tt
  response-all (send xs) h = slots_all xs h
  response-all (anew xs) h = slots_all xs h
