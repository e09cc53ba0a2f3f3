-- The names of a line that a text says are made of bytes of words, as the words of a text are.
-- Assumes nothing.
use Rattle.std.proofs.Common.{subst, false, List, [], ◌∷◌, ◌++◌, map, ℕ}
use Rattle.lexer.specs.Words.{or_w}
use Rattle.lexer.specs.Tokens.{word, mark}
use Rattle.lexer.specs.Class.{Wordy}
use Rattle.lexer.proofs.WordLaws.{WordyToken, tokens-wordy}
use Rattle.grammar.specs.AsRead.{Line, exact, below, Items, close, star_close, item, Simple, any_event, items, Condition, term, or, Term, negate, simple, inside, Pattern, plain, bracketed, Past, only, either, Sequence, single, beside, Factor, starred, Base, pattern, nothing, group, Template, named, place, Response, pass, hold, send, anew, role, rule, event}
use Rattle.grammar.specs.Spell.{spell_item, spell_items, spell_simple, spell_condition, spell_term, spell_pattern, spell_stars, spell_past, spell_sequence, spell_factor, spell_base, spell_slot, spell_slots, spell_response, spell_tail, spell_line}
use Rattle.grammar.specs.Names.{items_names, simple_names, condition_names, term_names, pattern_names, past_names, sequence_names, factor_names, base_names, slots_names, response_names, rule_names}
use Rattle.grammar.specs.Lines.{Says}
use Rattle.common.specs.All.{All}
use Rattle.common.proofs.AllLaws.{all_append, all_left, all_right}

items-wordy : (is : Items) → All WordyToken (spell_items is) → All Wordy (items_names is)
unfolding spell_items spell_item items_names
items-wordy close h = tt
items-wordy star_close h = tt
items-wordy (item (exact w) is) h = (h.0, items-wordy is h.1)
items-wordy (item (below w) is) h = (h.1.0, items-wordy is h.1.1)

simple-wordy : (p : Simple) → All WordyToken (spell_simple p) → All Wordy (simple_names p)
unfolding spell_simple simple_names
simple-wordy any_event h = tt
simple-wordy (items is) h = items-wordy is h.1

mutual
  unfolding spell_condition spell_term condition_names term_names

  condition_wordy : (c : Condition) → All WordyToken (spell_condition c) → All Wordy (condition_names c)
  condition_wordy (term t) h = term-wordy t h
  condition_wordy (or t c) h =
      all_append Wordy (term_names t) (condition_names c) (term-wordy t (all_left WordyToken (spell_term t) (word or_w ∷ spell_condition c) h)) (condition_wordy c (all_right WordyToken (spell_term t) (word or_w ∷ spell_condition c) h).1)

  term-wordy : (t : Term) → All WordyToken (spell_term t) → All Wordy (term_names t)
  term-wordy (negate t) h = term-wordy t h.1
  term-wordy (simple p) h = simple-wordy p h
  term-wordy (inside c) h = condition_wordy c (all_left WordyToken (spell_condition c) (mark 41 ∷ []) h.1)

pattern-wordy : (p : Pattern) → All WordyToken (spell_pattern p) → All Wordy (pattern_names p)
unfolding spell_pattern pattern_names
pattern-wordy (plain p) h = simple-wordy p h
pattern-wordy (bracketed c) h = condition_wordy c (all_left WordyToken (spell_condition c) (mark 93 ∷ []) h.1)

mutual
  unfolding spell_past spell_sequence spell_factor spell_base past_names sequence_names factor_names base_names

  past-wordy : (p : Past) → All WordyToken (spell_past p) → All Wordy (past_names p)
  past-wordy (only q) h = sequence_wordy q h
  past-wordy (either q p) h =
      all_append Wordy (sequence_names q) (past_names p) (sequence_wordy q (all_left WordyToken (spell_sequence q) (mark 43 ∷ spell_past p) h)) (past-wordy p (all_right WordyToken (spell_sequence q) (mark 43 ∷ spell_past p) h).1)

  sequence_wordy : (q : Sequence) → All WordyToken (spell_sequence q) → All Wordy (sequence_names q)
  sequence_wordy (single c) h = factor_wordy c h
  sequence_wordy (beside c q) h =
      all_append Wordy (factor_names c) (sequence_names q) (factor_wordy c (all_left WordyToken (spell_factor c) (spell_sequence q) h)) (sequence_wordy q (all_right WordyToken (spell_factor c) (spell_sequence q) h))

  factor_wordy : (c : Factor) → All WordyToken (spell_factor c) → All Wordy (factor_names c)
  factor_wordy (starred b n) h = base_wordy b (all_left WordyToken (spell_base b) (spell_stars n) h)

  base_wordy : (b : Base) → All WordyToken (spell_base b) → All Wordy (base_names b)
  base_wordy (pattern p) h = pattern-wordy p h
  base_wordy nothing h = tt
  base_wordy (group p) h = past-wordy p (all_left WordyToken (spell_past p) (mark 41 ∷ []) h.1)

slots_wordy : (xs : Template) → All WordyToken (spell_slots xs) → All Wordy (slots_names xs)
unfolding spell_slots spell_slot slots_names
slots_wordy [] h = tt
slots_wordy (named w ∷ xs) h = (h.0, slots_wordy xs h.1)
slots_wordy (place n ∷ xs) h = slots_wordy xs h.1.1

response-wordy : (x : Response) → All WordyToken (spell_response x) → All Wordy (response_names x)
unfolding spell_response response_names
response-wordy pass h = tt
response-wordy hold h = tt
response-wordy (send xs) h = slots_wordy xs h.1.1
response-wordy (anew xs) h = slots_wordy xs h.1.1

names-wordy : (ws : List (List ℕ)) → All WordyToken (map word ws) → All Wordy ws
names-wordy [] h = tt
names-wordy (w ∷ ws) h = (h.0, names-wordy ws h.1)

-- the names that a line declares and uses
abbrev pub line_names : Line → List (List ℕ)
line_names (role w p) = w ∷ p ∷ []
line_names (rule w p t x) = w ∷ rule_names p t x
line_names (event ws) = ws

spelled-wordy : (l : Line) → All WordyToken (spell_line l) → All Wordy (line_names l)
unfolding spell_line spell_tail rule_names
spelled-wordy (role w p) h = (h.1.0, (h.1.1.1.0, tt))
spelled-wordy (rule w p t x) h =
    let g = h.1.1.1 in
    let b = (all_right WordyToken (spell_past p) (mark 59 ∷ (spell_pattern t ++ (mark 59 ∷ spell_response x))) g).1 in (
      h.1.0,
      all_append Wordy (past_names p) (pattern_names t ++ response_names x) (past-wordy p (all_left WordyToken (spell_past p) (mark 59 ∷ (spell_pattern t ++ (mark 59 ∷ spell_response x))) g))
          (all_append Wordy (pattern_names t) (response_names x) (pattern-wordy t (all_left WordyToken (spell_pattern t) (mark 59 ∷ spell_response x) b)) (response-wordy x (all_right WordyToken (spell_pattern t) (mark 59 ∷ spell_response x) b).1)),
    )
spelled-wordy (event ws) h = names-wordy ws h

pub said-wordy : (s : List ℕ) (l : Line) → Says s l → All Wordy (line_names l)
said-wordy s l h = spelled-wordy l (subst (All WordyToken) h.spelled (tokens-wordy false s))
