-- The codes of a rule's tokens are the code of its tree.
-- Assumes nothing.
use Rattle.std.proofs.Common.{◌≡◌, refl, ap, ◌∙◌, List, [], ◌∷◌, ◌++◌, ℕ, zero, suc, ◌+◌, ◌≤◌, arith, replicate}
use Rattle.lexer.specs.Class.{class_of}
use Rattle.lexer.specs.Words.{kind_of, same, name_like, digit_kind, or_w}
use Rattle.lexer.specs.Tokens.{Token, word, mark}
use Rattle.code.specs.Code.{id_of, byte_of_kind, code_of, codes}
use Rattle.grammar.specs.Rename.{map_item, map_items, map_simple, map_condition, map_term, map_pattern, map_past, map_sequence, map_factor, map_base, map_slots, map_response}
use Rattle.grammar.specs.AsRead.{exact, below, Items, close, star_close, item, any_event, items, Condition, term, or, Term, negate, simple, inside, Pattern, plain, bracketed, Past, only, either, Sequence, single, beside, Factor, starred, Base, pattern, nothing, group, named, place, Response, pass, hold, send, anew, Template}
use Rattle.grammar.specs.Spell.{spell_item, spell_items, spell_simple, spell_condition, spell_term, spell_pattern, spell_stars, spell_past, spell_sequence, spell_factor, spell_base, spell_slot, spell_slots, spell_response, spell_tail}
use Rattle.grammar.specs.Valid.{ValidItem, ValidItems, ValidSimple, ValidCondition, ValidTerm, ValidPattern, ValidPast, ValidSequence, ValidFactor, ValidBase, ValidSlot, ValidSlots, ValidResponse}
use Rattle.code.specs.Trees.{code_items, code_simple, code_condition, code_term, code_pattern, code_past, code_sequence, code_factor, code_base, code_slots, code_response, code_tail, code_rule}

module _ (ns : List ℕ) where
  pub codes-append : (a b : List Token) → codes ns (a ++ b) ≡ codes ns a ++ codes ns b
  unfolding codes
  codes-append [] b = refl
  codes-append (t ∷ a) b = ap (λ (l : List ℕ). code_of ns t ∷ l) (codes-append a b)

  name : (w : List ℕ) → kind_of w ≡ 0 → code_of ns (word w) ≡ 128 + id_of ns w
  unfolding code_of
  name w e = rw e refl

  -- a digit's code is the digit
  digit : (n : ℕ) → (1 ≤ n) × (n ≤ 4) → code_of ns (word ((n + 48) ∷ [])) ≡ n + 48
  unfolding code_of kind_of same name_like digit_kind byte_of_kind class_of
  digit zero h = absurd (omega arith)
  digit (suc zero) h = refl
  digit (suc (suc zero)) h = refl
  digit (suc (suc (suc zero))) h = refl
  digit (suc (suc (suc (suc zero)))) h = refl
  digit (suc (suc (suc (suc (suc n))))) h = absurd (omega arith)

  -- a spelling inside two marks
  between : (a b : ℕ) (ts : List Token) (l : List ℕ) → codes ns ts ≡ l → codes ns (mark a ∷ (ts ++ (mark b ∷ []))) ≡ a ∷ (l ++ (b ∷ []))
  unfolding codes code_of
  between a b ts l e = ap (λ (v : List ℕ). a ∷ v) (codes-append ts (mark b ∷ []) ∙ ap (λ (v : List ℕ). v ++ (b ∷ [])) e)

  -- two spellings side by side
  joined : (a b : List Token) (k l : List ℕ) → codes ns a ≡ k → codes ns b ≡ l → codes ns (a ++ b) ≡ k ++ l
  joined a b k l e h = codes-append a b ∙ rw (e, h) refl

  items_code : (k : ℕ) (is : Items) → ValidItems k is → codes ns (spell_items is) ≡ code_items (map_items (id_of ns) is)
  unfolding spell_items spell_item codes code_of ValidItems ValidItem map_items map_item code_items
  items_code k close g = refl
  items_code k star_close g = refl
  items_code zero (item i is) g = absurd g
  items_code (suc k) (item (exact w) is) g = rw (name w g.0) (ap (λ (l : List ℕ). (128 + id_of ns w) ∷ l) (items_code k is g.1))
  items_code (suc k) (item (below w) is) g = rw (name w g.0) (ap (λ (l : List ℕ). 43 ∷ (128 + id_of ns w) ∷ l) (items_code k is g.1))

  mutual
    unfolding spell_condition spell_term spell_simple codes code_of kind_of same byte_of_kind ValidCondition ValidTerm ValidSimple map_condition map_term map_simple code_condition code_term code_simple

    condition_code : (c : Condition) → ValidCondition c → codes ns (spell_condition c) ≡ code_condition (map_condition (id_of ns) c)
    condition_code (term t) g = term_code t g
    condition_code (or t c) g = joined (spell_term t) (word or_w ∷ spell_condition c) _ _ (term_code t g.0) (ap (λ (l : List ℕ). 111 ∷ l) (condition_code c g.1))

    term_code : (t : Term) → ValidTerm t → codes ns (spell_term t) ≡ code_term (map_term (id_of ns) t)
    term_code (negate t) g = ap (λ (l : List ℕ). 110 ∷ l) (term_code t g)
    term_code (simple any_event) g = refl
    term_code (simple (items is)) g = ap (λ (l : List ℕ). 60 ∷ l) (items_code 4 is g)
    term_code (inside c) g = between 40 41 (spell_condition c) _ (condition_code c g)

  pattern_code : (p : Pattern) → ValidPattern p → codes ns (spell_pattern p) ≡ code_pattern (map_pattern (id_of ns) p)
  unfolding spell_pattern spell_simple codes code_of kind_of same byte_of_kind ValidPattern ValidSimple map_pattern map_simple code_pattern code_simple
  pattern_code (plain any_event) g = refl
  pattern_code (plain (items is)) g = ap (λ (l : List ℕ). 60 ∷ l) (items_code 4 is g)
  pattern_code (bracketed c) g = between 91 93 (spell_condition c) _ (condition_code c g)

  stars_code : (n : ℕ) → codes ns (spell_stars n) ≡ replicate n 42
  unfolding spell_stars codes code_of
  stars_code zero = refl
  stars_code (suc n) = ap (λ (l : List ℕ). 42 ∷ l) (stars_code n)

  mutual
    unfolding spell_past spell_sequence spell_factor spell_base codes code_of ValidPast ValidSequence ValidFactor ValidBase map_past map_sequence map_factor map_base code_past code_sequence code_factor code_base

    past_code : (p : Past) → ValidPast p → codes ns (spell_past p) ≡ code_past (map_past (id_of ns) p)
    past_code (only q) g = sequence_code q g
    past_code (either q p) g = joined (spell_sequence q) (mark 43 ∷ spell_past p) _ _ (sequence_code q g.0) (ap (λ (l : List ℕ). 43 ∷ l) (past_code p g.1))

    sequence_code : (q : Sequence) → ValidSequence q → codes ns (spell_sequence q) ≡ code_sequence (map_sequence (id_of ns) q)
    sequence_code (single c) g = factor_code c g
    sequence_code (beside c q) g = joined (spell_factor c) (spell_sequence q) _ _ (factor_code c g.0) (sequence_code q g.1)

    factor_code : (c : Factor) → ValidFactor c → codes ns (spell_factor c) ≡ code_factor (map_factor (id_of ns) c)
    factor_code (starred b n) g = joined (spell_base b) (spell_stars n) _ _ (base_code b g) (stars_code n)

    base_code : (b : Base) → ValidBase b → codes ns (spell_base b) ≡ code_base (map_base (id_of ns) b)
    base_code (pattern p) g = pattern_code p g
    base_code nothing g = refl
    base_code (group p) g = between 40 41 (spell_past p) _ (past_code p g)

  slots_code : (k : ℕ) (xs : Template) → ValidSlots k xs → codes ns (spell_slots xs) ≡ code_slots (map_slots (id_of ns) xs)
  unfolding spell_slots spell_slot codes code_of ValidSlots ValidSlot map_slots code_slots
  slots_code k [] g = refl
  slots_code zero (x ∷ xs) g = absurd g
  slots_code (suc k) (named w ∷ xs) g = rw (name w g.0) (ap (λ (l : List ℕ). (128 + id_of ns w) ∷ l) (slots_code k xs g.1))
  slots_code (suc k) (place n ∷ xs) g = ap (λ (l : List ℕ). 35 ∷ code_of ns (word ((n + 48) ∷ [])) ∷ l) (slots_code k xs g.1) ∙ ap (λ (d : ℕ). 35 ∷ d ∷ code_slots (map_slots (id_of ns) xs)) (digit n g.0)

  response_code : (x : Response) → ValidResponse x → codes ns (spell_response x) ≡ code_response (map_response (id_of ns) x)
  unfolding spell_response codes code_of kind_of same byte_of_kind ValidResponse map_response code_response
  response_code pass g = refl
  response_code hold g = refl
  response_code (send xs) g = ap (λ (l : List ℕ). 115 ∷ 60 ∷ l) (slots_code 4 xs g)
  response_code (anew xs) g = ap (λ (l : List ℕ). 119 ∷ 60 ∷ l) (slots_code 4 xs g)

  -- The tokens after `rule NAME :`, coded, are the code of the tree with ids: the tree that the code spells is the tree of the text.
  pub rule_code : (p : Past) (t : Pattern) (x : Response) → ValidPast p → ValidPattern t → ValidResponse x
      → codes ns (spell_past p ++ spell_tail t x) ≡ code_rule (map_past (id_of ns) p) (map_pattern (id_of ns) t) (map_response (id_of ns) x)
  unfolding spell_tail codes code_of code_tail code_rule
  rule_code p t x g h k =
      joined (spell_past p) (mark 59 ∷ (spell_pattern t ++ (mark 59 ∷ spell_response x))) _ _ (past_code p g)
      (ap (λ (l : List ℕ). 59 ∷ l) (joined (spell_pattern t) (mark 59 ∷ spell_response x) _ _ (pattern_code t h) (ap (λ (l : List ℕ). 59 ∷ l) (response_code x k))))
