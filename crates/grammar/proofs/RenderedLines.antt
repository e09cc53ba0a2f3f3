-- A line that some text says, written out again by its tokens: it is read as the same line, it is no longer than that text, and no byte of it is of class 0.
-- Assumes nothing.
use Rattle.std.proofs.Common.{◌≡◌, true, false, List, [], ◌∷◌, ◌++◌, ℕ, zero, suc, ◌≤◌, arith, length, replicate}
use Rattle.std.proofs.Math.Option.{some}
use Rattle.common.specs.All.{All}
use Rattle.common.proofs.AllLaws.{all_of, all_append, all_mapped}
use Rattle.lexer.specs.Class.{all_classed}
use Rattle.lexer.specs.Words.{or_w}
use Rattle.lexer.specs.Tokens.{Token, word, mark}
use Rattle.lexer.proofs.WordLaws.{Formed, tokens_formed}
use Rattle.lexer.proofs.RenderLaws.{Plain, tokens-padded, render-short, render-classed}
use Rattle.grammar.specs.AsRead.{Item, exact, below, Items, close, star_close, item, Simple, any_event, items, Condition, term, or, Term, negate, simple, inside, Pattern, plain, bracketed, Past, only, either, Sequence, single, beside, Factor, starred, Base, pattern, nothing, group, named, place, Template, Response, pass, hold, send, anew, Line, role, rule, event}
use Rattle.grammar.specs.Spell.{spell_item, spell_items, spell_simple, spell_condition, spell_term, spell_pattern, spell_stars, spell_past, spell_sequence, spell_factor, spell_base, spell_slot, spell_slots, spell_response, spell_tail, spell_line}
use Rattle.grammar.specs.LineText.{line_text}
use Rattle.grammar.specs.Lines.{Says, declares, read_line}
use Rattle.grammar.proofs.Language.{line_taken}

-- A line is spelled in words and marks only, form by form.

-- two spellings side by side
join : (a b : List Token) → All Plain a → All Plain b → All Plain (a ++ b)
join = all_append Plain

item-plain : (i : Item) → All Plain (spell_item i)
unfolding spell_item
item-plain (exact w) = (tt, tt)
item-plain (below w) = (tt, (tt, tt))

items-plain : (is : Items) → All Plain (spell_items is)
unfolding spell_items
items-plain close = (tt, tt)
items-plain star_close = (tt, (tt, tt))
items-plain (item i is) = join (spell_item i) (spell_items is) (item-plain i) (items-plain is)

simple-plain : (p : Simple) → All Plain (spell_simple p)
unfolding spell_simple
simple-plain any_event = (tt, tt)
simple-plain (items is) = (tt, items-plain is)

mutual
  unfolding spell_condition

  condition_plain : (c : Condition) → All Plain (spell_condition c)
  condition_plain (term t) = term-plain t
  condition_plain (or t c) = join (spell_term t) (word or_w ∷ spell_condition c) (term-plain t) (tt, condition_plain c)

  term-plain : (t : Term) → All Plain (spell_term t)
  term-plain (negate t) = (tt, term-plain t)
  term-plain (simple p) = simple-plain p
  term-plain (inside c) = (tt, join (spell_condition c) (mark 41 ∷ []) (condition_plain c) (tt, tt))

pattern-plain : (p : Pattern) → All Plain (spell_pattern p)
unfolding spell_pattern
pattern-plain (plain p) = simple-plain p
pattern-plain (bracketed c) = (tt, join (spell_condition c) (mark 93 ∷ []) (condition_plain c) (tt, tt))

stars_plain : (n : ℕ) → All Plain (spell_stars n)
unfolding spell_stars
stars_plain zero = tt
stars_plain (suc n) = (tt, stars_plain n)

mutual
  unfolding spell_past

  past-plain : (p : Past) → All Plain (spell_past p)
  past-plain (only q) = sequence_plain q
  past-plain (either q p) = join (spell_sequence q) (mark 43 ∷ spell_past p) (sequence_plain q) (tt, past-plain p)

  sequence_plain : (q : Sequence) → All Plain (spell_sequence q)
  sequence_plain (single c) = factor_plain c
  sequence_plain (beside c q) = join (spell_factor c) (spell_sequence q) (factor_plain c) (sequence_plain q)

  factor_plain : (c : Factor) → All Plain (spell_factor c)
  factor_plain (starred b n) = join (spell_base b) (spell_stars n) (base_plain b) (stars_plain n)

  base_plain : (b : Base) → All Plain (spell_base b)
  base_plain (pattern p) = pattern-plain p
  base_plain nothing = (tt, (tt, tt))
  base_plain (group p) = (tt, join (spell_past p) (mark 41 ∷ []) (past-plain p) (tt, tt))

slots_plain : (xs : Template) → All Plain (spell_slots xs)
unfolding spell_slots spell_slot
slots_plain [] = (tt, tt)
slots_plain (named w ∷ xs) = (tt, slots_plain xs)
slots_plain (place n ∷ xs) = (tt, (tt, slots_plain xs))

response-plain : (x : Response) → All Plain (spell_response x)
unfolding spell_response
response-plain pass = (tt, tt)
response-plain hold = (tt, tt)
response-plain (send xs) = (tt, (tt, slots_plain xs))
response-plain (anew xs) = (tt, (tt, slots_plain xs))

-- a whole line
pub spelled-plain : (l : Line) → All Plain (spell_line l)
unfolding spell_line spell_tail
spelled-plain (role w p) = (tt, (tt, (tt, (tt, tt))))
spelled-plain (rule w p t x) =
    (tt, (tt, (tt, join (spell_past p) (spell_tail t x) (past-plain p) (tt, join (spell_pattern t) (mark 59 ∷ spell_response x) (pattern-plain t) (tt, response-plain x)))))
spelled-plain (event ws) = all_mapped word Plain ws (all_of (λ w. Plain (word w)) (λ w. tt) ws)

module _ (s : List ℕ) (l : Line) (h : Says s l) where
  -- the tokens that spell it are such as a text has
  pub says_formed : All Formed (spell_line l)
  says_formed = rw h.spelled at (tokens_formed false s)

  -- written out, with any padding, it says the same line
  pub says_rendered : (k : ℕ) → Says (line_text l ++ replicate k 32) l
  says_rendered k = record { valid = h.valid; spelled = tokens-padded (spell_line l) k says_formed }

  -- "Line records are written with one space between two neighbouring words and no other space but the padding after the text.": so they are read back
  pub line_rendered : (k : ℕ) → declares l ≡ true → read_line (line_text l ++ replicate k 32) ≡ some l
  line_rendered k d = (line_taken (line_text l ++ replicate k 32) l).1 (says_rendered k, d)

  -- it is no longer than the text that said it
  pub rendered_short : length (line_text l) ≤ length s
  rendered_short = rw h.spelled at (render-short s)

  -- "Bytes 1 to 126 are the text.": so it fits a record
  pub rendered_fits : length s ≤ 126 → length (line_text l) ≤ 126
  rendered_fits n = let m = rendered_short in omega arith

  -- "a text byte of class 0": it has none, nor has the padding
  pub rendered_classed : (k : ℕ) → all_classed (line_text l ++ replicate k 32) ≡ true
  rendered_classed k = render-classed (spell_line l) k says_formed (spelled-plain l)
