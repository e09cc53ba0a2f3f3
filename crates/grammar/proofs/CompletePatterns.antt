-- Each valid item, condition and pattern is read back from the tokens that spell it.
-- Assumes nothing.
use Rattle.std.proofs.Common.{◌≡◌, refl, false, List, [], ◌∷◌, ◌++◌, append_assoc, ℕ, zero, suc, ◌+◌, ◌*◌, ◌<◌, arith, eqb, length, length-append}
use Rattle.lexer.specs.Words.{any_w, or_w}
use Rattle.lexer.specs.Tokens.{Token, word, mark}
use Rattle.grammar.specs.Parsed.{none, some, mark_is, word_is}
use Rattle.grammar.specs.AsRead.{Item, exact, below, Items, close, star_close, item, Simple, any_event, items, Condition, term, or, Term, negate, simple, inside, Pattern, plain, bracketed}
use Rattle.grammar.specs.Spell.{spell_item, spell_items, spell_simple, spell_condition, spell_term, spell_pattern}
use Rattle.grammar.specs.Valid.{ValidItem, ValidItems, ValidSimple, ValidCondition, ValidTerm, ValidPattern}
use Rattle.grammar.specs.Parser.{item_of, open_of, items_of, simple_of, condition_with, term_with, condition_of, term_of, pattern_of}
use Rattle.grammar.proofs.CompleteLeaves.{NoMark, word_read, kind-reserved}

item_complete : (i : Item) (rest : List Token) → ValidItem i → item_of (spell_item i ++ rest) ≡ some i rest
unfolding ValidItem item_of spell_item mark_is
item_complete (exact w) rest g = rw (word_read 0 w rest g) refl
item_complete (below w) rest g = rw (word_read 0 w rest g) refl

item_open : (i : Item) (rest : List Token) → NoMark 62 (spell_item i ++ rest)
unfolding spell_item mark_is
item_open (exact w) rest = refl
item_open (below w) rest = refl

items-step : (k : ℕ) (i : Item) (is : Items) (rest : List Token) → ValidItem i → items_of k (spell_items is ++ rest) ≡ some is rest
    → items_of (suc k) ((spell_item i ++ spell_items is) ++ rest) ≡ some (item i is) rest
unfolding items_of
items-step k i is rest g h =
    rw (append_assoc (spell_item i) (spell_items is) rest, item_open i (spell_items is ++ rest), item_complete i (spell_items is ++ rest) g, h) refl

items_complete : (k : ℕ) (is : Items) (rest : List Token) → ValidItems k is → items_of k (spell_items is ++ rest) ≡ some is rest
unfolding ValidItems items_of open_of item_of spell_items mark_is word_is
items_complete zero close rest g = refl
items_complete (suc k) close rest g = refl
items_complete zero star_close rest g = refl
items_complete (suc k) star_close rest g = refl
items_complete zero (item i is) rest g = absurd g
items_complete (suc k) (item i is) rest g = items-step k i is rest g.0 (items_complete k is rest g.1)

simple_complete : (p : Simple) (rest : List Token) → ValidSimple p → simple_of (spell_simple p ++ rest) ≡ some p rest
unfolding ValidSimple simple_of spell_simple mark_is
simple_complete any_event rest g = rw (word_read 4 any_w rest (kind-reserved 3 (omega arith))) refl
simple_complete (items is) rest g = rw (items_complete 4 is rest g) refl

pub simple_no_mark : (b : ℕ) (p : Simple) (rest : List Token) → eqb 60 b ≡ false → NoMark b (spell_simple p ++ rest)
unfolding spell_simple mark_is
simple_no_mark b any_event rest e = refl
simple_no_mark b (items is) rest e = rw e refl

simple_no_not : (p : Simple) (rest : List Token) → word_is 5 (spell_simple p ++ rest) ≡ none
unfolding spell_simple word_is
simple_no_not any_event rest = rw (kind-reserved 3 (omega arith)) refl
simple_no_not (items is) rest = refl

mutual
  unfolding condition_of condition_with term_with ValidCondition spell_condition mark_is word_is

  condition_complete : (c : Condition) (rest : List Token) (f : ℕ) → ValidCondition c → word_is 6 rest ≡ none
      → length (spell_condition c) * 8 + 1 < f → condition_of f (spell_condition c ++ rest) ≡ some c rest
  condition_complete (term t) rest zero g h l = absurd (omega arith)
  condition_complete (term t) rest (suc f) g h l = rw (term_complete t rest f g (omega arith), h) refl
  condition_complete (or t c) rest zero g h l = absurd (omega arith)
  condition_complete (or t c) rest (suc f) g h l =
      let n : length (spell_term t ++ (word or_w ∷ spell_condition c)) ≡ length (spell_term t) + suc (length (spell_condition c)) = length-append (spell_term t) (word or_w ∷ spell_condition c) in
      rw (
        append_assoc (spell_term t) (word or_w ∷ spell_condition c) rest,
        term_complete t (word or_w ∷ (spell_condition c ++ rest)) f g.0 (omega arith),
        kind-reserved 5 (omega arith),
        condition_complete c rest f g.1 h (omega arith),
      ) refl

  term_complete : (t : Term) (rest : List Token) (f : ℕ) → ValidTerm t → length (spell_term t) * 8 + 0 < f → term_of f (spell_term t ++ rest) ≡ some t rest
  term_complete (negate t) rest zero g l = absurd (omega arith)
  term_complete (negate t) rest (suc f) g l = rw (kind-reserved 4 (omega arith), term_complete t rest f g (omega arith)) refl
  term_complete (simple p) rest zero g l = absurd (omega arith)
  term_complete (simple p) rest (suc f) g l = rw (simple_no_not p rest, simple_no_mark 40 p rest refl, simple_complete p rest g) refl
  term_complete (inside c) rest zero g l = absurd (omega arith)
  term_complete (inside c) rest (suc f) g l =
      let n : length (spell_condition c ++ (mark 41 ∷ [])) ≡ length (spell_condition c) + 1 = length-append (spell_condition c) (mark 41 ∷ []) in
      rw (append_assoc (spell_condition c) (mark 41 ∷ []) rest, condition_complete c (mark 41 ∷ rest) f g refl (omega arith)) refl

pub pattern_complete : (p : Pattern) (rest : List Token) (f : ℕ) → ValidPattern p → length (spell_pattern p) * 8 + 2 < f → pattern_of f (spell_pattern p ++ rest) ≡ some p rest
unfolding pattern_of ValidPattern spell_pattern mark_is word_is
pattern_complete (plain p) rest f g l = rw (simple_no_mark 91 p rest refl, simple_complete p rest g) refl
pattern_complete (bracketed c) rest f g l =
    let n : length (spell_condition c ++ (mark 93 ∷ [])) ≡ length (spell_condition c) + 1 = length-append (spell_condition c) (mark 93 ∷ []) in
    rw (append_assoc (spell_condition c) (mark 93 ∷ []) rest, condition_complete c (mark 93 ∷ rest) f g refl (omega arith)) refl
