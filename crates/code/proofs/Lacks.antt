-- A name among a rule's tokens has no id where one of its tree's has none.
-- Assumes nothing.
use Rattle.std.proofs.Common.{◌≡◌, refl, ap, sym, ◌∙◌, Bool, false, ◌||◌, List, [], ◌∷◌, ◌++◌, ℕ, zero, suc, ◌+◌, ◌≤◌, arith}
use Rattle.std.proofs.Math.Bool.{or-false}
use Rattle.lexer.specs.Class.{class_of}
use Rattle.lexer.specs.Words.{kind_of, same, name_like, digit_kind, or_w}
use Rattle.lexer.specs.Tokens.{Token, word, mark}
use Rattle.code.specs.Code.{no_id, unheld, any_unheld, lacks}
use Rattle.grammar.specs.Names.{items_names, simple_names, condition_names, term_names, pattern_names, past_names, sequence_names, factor_names, base_names, slots_names, response_names, rule_names}
use Rattle.grammar.specs.AsRead.{exact, below, Items, close, star_close, item, any_event, items, Condition, term, or, Term, negate, simple, inside, Pattern, plain, bracketed, Past, only, either, Sequence, single, beside, Factor, starred, Base, pattern, nothing, group, named, place, Response, pass, hold, send, anew, Template}
use Rattle.grammar.specs.Spell.{spell_item, spell_items, spell_simple, spell_condition, spell_term, spell_pattern, spell_stars, spell_past, spell_sequence, spell_factor, spell_base, spell_slot, spell_slots, spell_response, spell_tail}
use Rattle.grammar.specs.Valid.{ValidItem, ValidItems, ValidSimple, ValidCondition, ValidTerm, ValidPattern, ValidPast, ValidSequence, ValidFactor, ValidBase, ValidSlot, ValidSlots, ValidResponse}
use Rattle.common.proofs.Bools.{or_assoc}

module _ (ns : List ℕ) where
  abbrev missing : List Token → Bool
  missing ts = any_unheld ns ts

  abbrev short : List (List ℕ) → Bool
  short ws = lacks ns ws

  pub missing_append : (a b : List Token) → missing (a ++ b) ≡ (missing a || missing b)
  unfolding any_unheld
  missing_append [] b = refl
  missing_append (t ∷ a) b = ap (λ (q : Bool). unheld ns t || q) (missing_append a b) ∙ or_assoc (unheld ns t) (missing a) (missing b)

  pub lacks-append : (a b : List (List ℕ)) → short (a ++ b) ≡ (short a || short b)
  unfolding lacks
  lacks-append [] b = refl
  lacks-append (w ∷ a) b = ap (λ (q : Bool). no_id ns w || q) (lacks-append a b) ∙ or_assoc (no_id ns w) (short a) (short b)

  name : (w : List ℕ) → kind_of w ≡ 0 → unheld ns (word w) ≡ no_id ns w
  unfolding unheld
  name w e = rw e refl

  digit : (n : ℕ) → (1 ≤ n) × (n ≤ 4) → unheld ns (word ((n + 48) ∷ [])) ≡ false
  unfolding unheld kind_of same name_like digit_kind class_of
  digit zero h = absurd (omega arith)
  digit (suc zero) h = refl
  digit (suc (suc zero)) h = refl
  digit (suc (suc (suc zero))) h = refl
  digit (suc (suc (suc (suc zero)))) h = refl
  digit (suc (suc (suc (suc (suc n))))) h = absurd (omega arith)

  joined : (a b : List Token) (k l : List (List ℕ)) → missing a ≡ short k → missing b ≡ short l → missing (a ++ b) ≡ short (k ++ l)
  joined a b k l e h = missing_append a b ∙ rw (e, h) refl ∙ sym (lacks-append k l)

  -- marks after a spelling change nothing
  closed : (b : ℕ) (ts : List Token) (k : List (List ℕ)) → missing ts ≡ short k → missing (ts ++ (mark b ∷ [])) ≡ short k
  unfolding any_unheld unheld
  closed b ts k e = missing_append ts (mark b ∷ []) ∙ or-false (missing ts) ∙ e

  items-lacks : (k : ℕ) (is : Items) → ValidItems k is → missing (spell_items is) ≡ short (items_names is)
  unfolding spell_items spell_item any_unheld unheld ValidItems ValidItem items_names lacks
  items-lacks k close g = refl
  items-lacks k star_close g = refl
  items-lacks zero (item i is) g = absurd g
  items-lacks (suc k) (item (exact w) is) g = rw (name w g.0, items-lacks k is g.1) refl
  items-lacks (suc k) (item (below w) is) g = rw (name w g.0, items-lacks k is g.1) refl

  mutual
    unfolding spell_condition spell_term spell_simple any_unheld unheld kind_of same ValidCondition ValidTerm ValidSimple condition_names term_names simple_names lacks

    condition_lacks : (c : Condition) → ValidCondition c → missing (spell_condition c) ≡ short (condition_names c)
    condition_lacks (term t) g = term-lacks t g
    condition_lacks (or t c) g = joined (spell_term t) (word or_w ∷ spell_condition c) (term_names t) (condition_names c) (term-lacks t g.0) (condition_lacks c g.1)

    term-lacks : (t : Term) → ValidTerm t → missing (spell_term t) ≡ short (term_names t)
    term-lacks (negate t) g = term-lacks t g
    term-lacks (simple any_event) g = refl
    term-lacks (simple (items is)) g = items-lacks 4 is g
    term-lacks (inside c) g = closed 41 (spell_condition c) (condition_names c) (condition_lacks c g)

  pattern-lacks : (p : Pattern) → ValidPattern p → missing (spell_pattern p) ≡ short (pattern_names p)
  unfolding spell_pattern spell_simple any_unheld unheld kind_of same ValidPattern ValidSimple pattern_names simple_names lacks
  pattern-lacks (plain any_event) g = refl
  pattern-lacks (plain (items is)) g = items-lacks 4 is g
  pattern-lacks (bracketed c) g = closed 93 (spell_condition c) (condition_names c) (condition_lacks c g)

  stars_lack : (n : ℕ) → missing (spell_stars n) ≡ false
  unfolding spell_stars any_unheld unheld
  stars_lack zero = refl
  stars_lack (suc n) = stars_lack n

  mutual
    unfolding spell_past spell_sequence spell_factor spell_base any_unheld unheld ValidPast ValidSequence ValidFactor ValidBase past_names sequence_names factor_names base_names lacks

    past-lacks : (p : Past) → ValidPast p → missing (spell_past p) ≡ short (past_names p)
    past-lacks (only q) g = sequence_lacks q g
    past-lacks (either q p) g = joined (spell_sequence q) (mark 43 ∷ spell_past p) (sequence_names q) (past_names p) (sequence_lacks q g.0) (past-lacks p g.1)

    sequence_lacks : (q : Sequence) → ValidSequence q → missing (spell_sequence q) ≡ short (sequence_names q)
    sequence_lacks (single c) g = factor_lacks c g
    sequence_lacks (beside c q) g = joined (spell_factor c) (spell_sequence q) (factor_names c) (sequence_names q) (factor_lacks c g.0) (sequence_lacks q g.1)

    factor_lacks : (c : Factor) → ValidFactor c → missing (spell_factor c) ≡ short (factor_names c)
    factor_lacks (starred b n) g = missing_append (spell_base b) (spell_stars n) ∙ rw (stars_lack n) (or-false (missing (spell_base b))) ∙ base_lacks b g

    base_lacks : (b : Base) → ValidBase b → missing (spell_base b) ≡ short (base_names b)
    base_lacks (pattern p) g = pattern-lacks p g
    base_lacks nothing g = refl
    base_lacks (group p) g = closed 41 (spell_past p) (past_names p) (past-lacks p g)

  slots_lack : (k : ℕ) (xs : Template) → ValidSlots k xs → missing (spell_slots xs) ≡ short (slots_names xs)
  unfolding spell_slots spell_slot any_unheld unheld ValidSlots ValidSlot slots_names lacks
  slots_lack k [] g = refl
  slots_lack zero (x ∷ xs) g = absurd g
  slots_lack (suc k) (named w ∷ xs) g = rw (name w g.0, slots_lack k xs g.1) refl
  slots_lack (suc k) (place n ∷ xs) g = ap (λ (q : Bool). q || missing (spell_slots xs)) (digit n g.0) ∙ slots_lack k xs g.1

  response-lacks : (x : Response) → ValidResponse x → missing (spell_response x) ≡ short (response_names x)
  unfolding spell_response any_unheld unheld kind_of same ValidResponse response_names lacks
  response-lacks pass g = refl
  response-lacks hold g = refl
  response-lacks (send xs) g = slots_lack 4 xs g
  response-lacks (anew xs) g = slots_lack 4 xs g

  -- Refusal 6 as the encoder tells it is refusal 6 of the tree: one of the names that it uses has no id.
  pub rule-lacks : (p : Past) (t : Pattern) (x : Response) → ValidPast p → ValidPattern t → ValidResponse x → missing (spell_past p ++ spell_tail t x) ≡ short (rule_names p t x)
  unfolding spell_tail any_unheld unheld rule_names
  rule-lacks p t x g h k =
      joined (spell_past p) (mark 59 ∷ (spell_pattern t ++ (mark 59 ∷ spell_response x))) (past_names p) (pattern_names t ++ response_names x) (past-lacks p g)
      (joined (spell_pattern t) (mark 59 ∷ spell_response x) (pattern_names t) (response_names x) (pattern-lacks t h) (response-lacks x k))
