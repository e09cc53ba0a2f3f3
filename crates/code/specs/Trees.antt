-- The code of each form of a rule, with an id for each name: how its tree is spelled, one byte a token.
-- Marks stand by their bytes: # 35, ( 40, ) 41, * 42, + 43, ; 59, < 60, > 62, [ 91, ] 93; keywords by a letter: a any 97, h hold 104, n not 110, o or 111,
-- p pass 112, s send 115, w anew 119; a name by 128 and its id, a place by its digit.
-- Assumes nothing.
use Rattle.std.specs.Prelude.{List, [], ◌∷◌, ◌++◌, ℕ, ◌+◌, replicate}
use Rattle.grammar.specs.Trees.{Items, close, star_close, item, exact, below, Simple, any_event, items, Condition, term, or, Term, negate, simple, inside, Pattern, plain, bracketed, Past, only, either, Sequence, single, beside, Factor, starred, Base, pattern, nothing, group, named, place, Template, Response, pass, hold, send, anew}

-- items, "an optional `*`, `>`"
unfoldable pub code_items : Items ℕ → List ℕ
code_items close = 62 ∷ []
code_items star_close = 42 ∷ 62 ∷ []
code_items (item (exact p) xs) = (128 + p) ∷ code_items xs
code_items (item (below p) xs) = 43 ∷ (128 + p) ∷ code_items xs

-- "any, or `<`, zero to four items, an optional `*`, `>`"
unfoldable pub code_simple : Simple ℕ → List ℕ
code_simple any_event = 97 ∷ []
code_simple (items xs) = 60 ∷ code_items xs

unfoldable mutual
  -- "one or more terms joined by the word or"
  pub code_condition : Condition ℕ → List ℕ
  code_condition (term t) = code_term t
  code_condition (or t c) = code_term t ++ (111 ∷ code_condition c)

  -- "not with a term after it, a simple pattern, or a condition in round brackets"
  pub code_term : Term ℕ → List ℕ
  code_term (negate t) = 110 ∷ code_term t
  code_term (simple p) = code_simple p
  code_term (inside c) = 40 ∷ (code_condition c ++ (41 ∷ []))

-- "a simple pattern, or a condition in square brackets"
unfoldable pub code_pattern : Pattern ℕ → List ℕ
code_pattern (plain p) = code_simple p
code_pattern (bracketed c) = 91 ∷ (code_condition c ++ (93 ∷ []))

unfoldable mutual
  -- "one or more sequences joined by `+`"
  pub code_past : Past ℕ → List ℕ
  code_past (only q) = code_sequence q
  code_past (either q p) = code_sequence q ++ (43 ∷ code_past p)

  -- "one or more factors side by side"
  pub code_sequence : Sequence ℕ → List ℕ
  code_sequence (single c) = code_factor c
  code_sequence (beside c q) = code_factor c ++ code_sequence q

  -- "a base followed by any number of `*`"
  pub code_factor : Factor ℕ → List ℕ
  code_factor (starred b n) = code_base b ++ replicate n 42

  -- "a pattern, or `()` (the empty list), or a past in round brackets"
  pub code_base : Base ℕ → List ℕ
  code_base (pattern p) = code_pattern p
  code_base nothing = 40 ∷ 41 ∷ []
  code_base (group p) = 40 ∷ (code_past p ++ (41 ∷ []))

-- "zero to four slots, `>`"; "a name or `#` and one of 1 2 3 4"
unfoldable pub code_slots : Template ℕ → List ℕ
code_slots [] = 62 ∷ []
code_slots (named p ∷ xs) = (128 + p) ∷ code_slots xs
code_slots (place n ∷ xs) = 35 ∷ (n + 48) ∷ code_slots xs

-- "pass, hold, or send or anew with a template"
unfoldable pub code_response : Response ℕ → List ℕ
code_response pass = 112 ∷ []
code_response hold = 104 ∷ []
code_response (send xs) = 115 ∷ 60 ∷ code_slots xs
code_response (anew xs) = 119 ∷ 60 ∷ code_slots xs

-- what follows the past: ; the trigger ; the response
unfoldable pub code_tail : Pattern ℕ → Response ℕ → List ℕ
code_tail t x = 59 ∷ (code_pattern t ++ (59 ∷ code_response x))

-- the code of a rule: its past, its trigger and its response
unfoldable pub code_rule : Past ℕ → Pattern ℕ → Response ℕ → List ℕ
code_rule p t x = code_past p ++ code_tail t x
