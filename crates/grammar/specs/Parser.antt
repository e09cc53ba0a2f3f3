-- The parsers of the rule language, over tokens. `line_taken` and `event-taken` of proofs/Language.antt tie them to the spelling of trees,
-- so that a reader of the promises need not believe them.
-- Assumes nothing.
use Rattle.std.specs.Prelude.{ℕ, zero, suc, ◌+◌, ◌*◌, Bool, false, cond, List, [], ◌∷◌, eqb}
use Rattle.lexer.specs.Class.{among}
use Rattle.lexer.specs.Words.{kind_of, name_k, role_k, under_k, rule_k, any_k, not_k, or_k, pass_k, hold_k, send_k, anew_k}
use Rattle.lexer.specs.Tokens.{Token, word, mark, other}
use Rattle.grammar.specs.Parsed.{Parsed, none, some, map, bind, choose, mark_is, word_is, place_is}
use Rattle.grammar.specs.AsRead.{Item, exact, below, Items, close, star_close, item, Simple, any_event, items, Condition, term, or, Term, negate, simple, inside, Pattern, plain, bracketed, Past, only, either, Sequence, single, beside, Factor, starred, Base, pattern, nothing, group, Slot, named, place, Template, Response, pass, hold, send, anew, Line, role, rule, event}

-- a name, or + and a name
unfoldable pub item_of : List Token → Parsed Item
item_of ts = choose (mark_is 43 ts) (λ _ us. map below (word_is name_k us)) (map exact (word_is name_k ts))

-- * and >
unfoldable pub open_of : List Token → Parsed Items
open_of ts = bind (mark_is 42 ts) (λ _ us. map (λ _. star_close) (mark_is 62 us))

-- at most k items, an optional *, and >
unfoldable pub items_of : ℕ → List Token → Parsed Items
items_of zero ts = choose (mark_is 62 ts) (λ _ us. some close us) (open_of ts)
items_of (suc k) ts = choose (mark_is 62 ts) (λ _ us. some close us) (choose (item_of ts) (λ i us. map (item i) (items_of k us)) (open_of ts))

-- any, or < and what follows it
unfoldable pub simple_of : List Token → Parsed Simple
simple_of ts = choose (mark_is 60 ts) (λ _ us. map items (items_of 4 us)) (map (λ _. any_event) (word_is any_k ts))

-- a term, and where the word or follows, a condition
unfoldable pub condition_with : (List Token → Parsed Term) → (List Token → Parsed Condition) → List Token → Parsed Condition
condition_with term' condition ts = bind (term' ts) (λ t us. choose (word_is or_k us) (λ _ vs. map (or t) (condition vs)) (some (term t) us))

-- not and a term, ( a condition ), or a simple pattern
unfoldable pub term_with : (List Token → Parsed Term) → (List Token → Parsed Condition) → List Token → Parsed Term
term_with term' condition ts =
    choose (word_is not_k ts) (λ _ us. map negate (term' us))
    (choose (mark_is 40 ts) (λ _ us. bind (condition us) (λ c vs. map (λ _. inside c) (mark_is 41 vs)))
    (map simple (simple_of ts)))

-- the number bounds how deep
unfoldable mutual
  pub condition_of : ℕ → List Token → Parsed Condition
  condition_of zero ts = none
  condition_of (suc f) ts = condition_with (λ t. term_of f t) (λ t. condition_of f t) ts

  pub term_of : ℕ → List Token → Parsed Term
  term_of zero ts = none
  term_of (suc f) ts = term_with (λ t. term_of f t) (λ t. condition_of f t) ts

-- [ a condition ], or a simple pattern
unfoldable pub pattern_of : ℕ → List Token → Parsed Pattern
pattern_of f ts = choose (mark_is 91 ts) (λ _ us. bind (condition_of f us) (λ c vs. map (λ _. bracketed c) (mark_is 93 vs))) (map plain (simple_of ts))

-- how many stars stand in front
unfoldable pub stars_of : List Token → ℕ
stars_of [] = 0
stars_of (word w ∷ ts) = 0
stars_of (mark m ∷ ts) = cond (eqb m 42) (suc (stars_of ts)) 0
stars_of (other o ∷ ts) = 0

-- what is left after them
unfoldable pub after_stars : List Token → List Token
after_stars [] = []
after_stars (word w ∷ ts) = word w ∷ ts
after_stars (mark m ∷ ts) = cond (eqb m 42) (after_stars ts) (mark m ∷ ts)
after_stars (other o ∷ ts) = other o ∷ ts

-- whether a factor begins: any < ( [
unfoldable pub begins : List Token → Bool
begins [] = false
begins (word w ∷ ts) = eqb (kind_of w) any_k
begins (mark m ∷ ts) = among m (60 ∷ 40 ∷ 91 ∷ [])
begins (other o ∷ ts) = false

-- a sequence, and where + follows, a past
unfoldable pub past_with : (List Token → Parsed Sequence) → (List Token → Parsed Past) → List Token → Parsed Past
past_with sequence past ts = bind (sequence ts) (λ q us. choose (mark_is 43 us) (λ _ vs. map (either q) (past vs)) (some (only q) us))

-- a factor, and where another begins, a sequence
unfoldable pub sequence_with : (List Token → Parsed Factor) → (List Token → Parsed Sequence) → List Token → Parsed Sequence
sequence_with factor sequence ts = bind (factor ts) (λ c us. cond (begins us) (map (beside c) (sequence us)) (some (single c) us))

-- a base and the stars after it
unfoldable pub factor_with : (List Token → Parsed Base) → List Token → Parsed Factor
factor_with base ts = bind (base ts) (λ b us. some (starred b (stars_of us)) (after_stars us))

-- ( ), ( a past ), or a pattern
unfoldable pub base_with : (List Token → Parsed Past) → (List Token → Parsed Pattern) → List Token → Parsed Base
base_with past pattern' ts =
    choose (mark_is 40 ts)
    (λ _ us. choose (mark_is 41 us) (λ _ vs. some nothing vs) (bind (past us) (λ p vs. map (λ _. group p) (mark_is 41 vs))))
    (map pattern (pattern' ts))

-- the number bounds how deep
unfoldable mutual
  pub past_of : ℕ → List Token → Parsed Past
  past_of zero ts = none
  past_of (suc f) ts = past_with (λ t. sequence_of f t) (λ t. past_of f t) ts

  pub sequence_of : ℕ → List Token → Parsed Sequence
  sequence_of zero ts = none
  sequence_of (suc f) ts = sequence_with (λ t. factor_of f t) (λ t. sequence_of f t) ts

  pub factor_of : ℕ → List Token → Parsed Factor
  factor_of zero ts = none
  factor_of (suc f) ts = factor_with (λ t. base_of f t) ts

  pub base_of : ℕ → List Token → Parsed Base
  base_of zero ts = none
  base_of (suc f) ts = base_with (λ t. past_of f t) (pattern_of f) ts

-- # and a place, or a name
unfoldable pub slot_of : List Token → Parsed Slot
slot_of ts = choose (mark_is 35 ts) (λ _ us. map place (place_is us)) (map named (word_is name_k ts))

-- at most k slots, and >
unfoldable pub slots_of : ℕ → List Token → Parsed Template
slots_of zero ts = map (λ _. []) (mark_is 62 ts)
slots_of (suc k) ts = choose (mark_is 62 ts) (λ _ us. some [] us) (bind (slot_of ts) (λ x us. map (λ xs. x ∷ xs) (slots_of k us)))

-- < slots >
unfoldable pub template_of : List Token → Parsed Template
template_of ts = bind (mark_is 60 ts) (λ _ us. slots_of 4 us)

-- pass, hold, send and a template, anew and a template
unfoldable pub response_of : List Token → Parsed Response
response_of ts =
    choose (word_is pass_k ts) (λ _ us. some pass us)
    (choose (word_is hold_k ts) (λ _ us. some hold us)
    (choose (word_is send_k ts) (λ _ us. map send (template_of us))
    (bind (word_is anew_k ts) (λ _ us. map anew (template_of us)))))

-- role, a name, under, a name
unfoldable pub role_of : List Token → Parsed Line
role_of ts = bind (word_is role_k ts) (λ _ us. bind (word_is name_k us) (λ w vs. bind (word_is under_k vs) (λ _ xs. map (role w) (word_is name_k xs))))

-- rule, a name, :
unfoldable pub head_of : List Token → Parsed (List ℕ)
head_of ts = bind (word_is rule_k ts) (λ _ us. bind (word_is name_k us) (λ w vs. map (λ _. w) (mark_is 58 vs)))

-- ; a pattern ; a response
unfoldable pub tail_of : ℕ → List Token → Parsed (Pattern × Response)
tail_of f ts = bind (mark_is 59 ts) (λ _ us. bind (pattern_of f us) (λ p vs. bind (mark_is 59 vs) (λ _ xs. map (λ x. (p, x)) (response_of xs))))

-- its head, a past, its tail
unfoldable pub rule_of : ℕ → List Token → Parsed Line
rule_of f ts = bind (head_of ts) (λ w us. bind (past_of f us) (λ p vs. map (λ t. rule w p t.0 t.1) (tail_of f vs)))

-- at most k names
unfoldable pub names_of : ℕ → List Token → Parsed (List (List ℕ))
names_of zero ts = some [] ts
names_of (suc k) ts = choose (word_is name_k ts) (λ w us. map (λ ws. w ∷ ws) (names_of k us)) (some [] ts)

-- zero to four names
unfoldable pub event_of : List Token → Parsed Line
event_of ts = map event (names_of 4 ts)

-- how deep a text of n bytes can go
abbrev pub depth : ℕ → ℕ
depth n = n * 8 + 7
