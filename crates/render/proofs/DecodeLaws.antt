-- The tokens of a rule's code are those that spell its tree, with a name for each id.
-- Assumes nothing.
use Rattle.std.proofs.Common.{◌≡◌, refl, ap, ◌∙◌, List, [], ◌∷◌, ◌++◌, map, ℕ, zero, suc, ◌+◌, ◌-◌, ◌≤◌, arith, replicate, le-leb}
use Rattle.std.proofs.lemmas.List.{map-append}
use Rattle.lexer.specs.Words.{not_w, or_w, send_w, anew_w}
use Rattle.lexer.specs.Tokens.{Token, word, mark}
use Rattle.grammar.specs.Trees.{exact, below, Items, close, star_close, item, Simple, any_event, items, Condition, term, or, Term, negate, simple, inside, Pattern, plain, bracketed, Past, only, either, Sequence, single, beside, Factor, starred, Base, pattern, nothing, group, named, place, Response, pass, hold, send, anew, Template}
use Rattle.grammar.specs.Rename.{map_item, map_items, map_simple, map_condition, map_term, map_pattern, map_past, map_sequence, map_factor, map_base, map_slots, map_response}
use Rattle.grammar.specs.Spell.{spell_item, spell_items, spell_simple, spell_condition, spell_term, spell_pattern, spell_stars, spell_past, spell_sequence, spell_factor, spell_base, spell_slot, spell_slots, spell_response, spell_tail}
use Rattle.grammar.specs.Valid.{ValidSlot, ValidSlots, ValidResponse}
use Rattle.code.specs.Trees.{code_items, code_simple, code_condition, code_term, code_pattern, code_past, code_sequence, code_factor, code_base, code_slots, code_response, code_tail, code_rule}
use Rattle.render.specs.Decoded.{keyword_of, is_word, bytes_of, token_of}

module _ (name : ℕ → List ℕ) where
  -- the tokens that some code stands for
  abbrev told : List ℕ → List Token
  told code = map (token_of name) code

  -- 128 and an id is the name
  id_told : (p : ℕ) → token_of name (128 + p) ≡ word (name p)
  unfolding token_of is_word bytes_of
  id_told p =
      let n : 128 + p - 128 ≡ p = omega arith in
      rw (le-leb 128 (128 + p) (omega arith), n) refl

  -- two codes side by side
  joined : (a b : List ℕ) (k l : List Token) → told a ≡ k → told b ≡ l → told (a ++ b) ≡ k ++ l
  joined a b k l e h = map-append (token_of name) a b ∙ rw (e, h) refl

  -- form by form: items
  items-told : (is : Items ℕ) → told (code_items is) ≡ spell_items (map_items name is)
  unfolding token_of is_word bytes_of keyword_of code_items spell_items spell_item map_items map_item
  items-told close = refl
  items-told star_close = refl
  items-told (item (exact p) is) = rw (id_told p) (ap (λ (l : List Token). word (name p) ∷ l) (items-told is))
  items-told (item (below p) is) = rw (id_told p) (ap (λ (l : List Token). mark 43 ∷ word (name p) ∷ l) (items-told is))

  -- a simple pattern
  simple-told : (p : Simple ℕ) → told (code_simple p) ≡ spell_simple (map_simple name p)
  unfolding token_of is_word bytes_of keyword_of code_simple spell_simple map_simple
  simple-told any_event = refl
  simple-told (items is) = ap (λ (l : List Token). mark 60 ∷ l) (items-told is)

  -- a code inside two marks
  inside-marks : (a b : ℕ) (c : List ℕ) (ts : List Token) → token_of name a ≡ mark a → token_of name b ≡ mark b → told c ≡ ts
      → told (a ∷ (c ++ (b ∷ []))) ≡ mark a ∷ (ts ++ (mark b ∷ []))
  inside-marks a b c ts e₁ e₂ e = rw (e₁, joined c (b ∷ []) ts (mark b ∷ []) e (rw e₂ refl)) refl

  mutual
    unfolding token_of is_word bytes_of keyword_of code_condition spell_condition map_condition

    -- a condition and a term
    condition_told : (c : Condition ℕ) → told (code_condition c) ≡ spell_condition (map_condition name c)
    condition_told (term t) = term_told t
    condition_told (or t c) = joined (code_term t) (111 ∷ code_condition c) _ _ (term_told t) (ap (λ (l : List Token). word or_w ∷ l) (condition_told c))

    term_told : (t : Term ℕ) → told (code_term t) ≡ spell_term (map_term name t)
    term_told (negate t) = ap (λ (l : List Token). word not_w ∷ l) (term_told t)
    term_told (simple p) = simple-told p
    term_told (inside c) = inside-marks 40 41 (code_condition c) _ refl refl (condition_told c)

  -- a pattern
  pattern-told : (p : Pattern ℕ) → told (code_pattern p) ≡ spell_pattern (map_pattern name p)
  unfolding token_of is_word bytes_of keyword_of code_pattern spell_pattern map_pattern
  pattern-told (plain p) = simple-told p
  pattern-told (bracketed c) = inside-marks 91 93 (code_condition c) _ refl refl (condition_told c)

  -- stars
  stars_told : (n : ℕ) → told (replicate n 42) ≡ spell_stars n
  unfolding token_of is_word bytes_of spell_stars
  stars_told zero = refl
  stars_told (suc n) = ap (λ (l : List Token). mark 42 ∷ l) (stars_told n)

  mutual
    unfolding token_of is_word bytes_of code_past spell_past map_past

    -- a past, a sequence, a factor and a base
    past-told : (p : Past ℕ) → told (code_past p) ≡ spell_past (map_past name p)
    past-told (only q) = sequence_told q
    past-told (either q p) = joined (code_sequence q) (43 ∷ code_past p) _ _ (sequence_told q) (ap (λ (l : List Token). mark 43 ∷ l) (past-told p))

    sequence_told : (q : Sequence ℕ) → told (code_sequence q) ≡ spell_sequence (map_sequence name q)
    sequence_told (single c) = factor_told c
    sequence_told (beside c q) = joined (code_factor c) (code_sequence q) _ _ (factor_told c) (sequence_told q)

    factor_told : (c : Factor ℕ) → told (code_factor c) ≡ spell_factor (map_factor name c)
    factor_told (starred b n) = joined (code_base b) (replicate n 42) _ _ (base_told b) (stars_told n)

    base_told : (b : Base ℕ) → told (code_base b) ≡ spell_base (map_base name b)
    base_told (pattern p) = pattern-told p
    base_told nothing = refl
    base_told (group p) = inside-marks 40 41 (code_past p) _ refl refl (past-told p)

  -- a place is its digit
  place-told : (n : ℕ) → (1 ≤ n) × (n ≤ 4) → token_of name (n + 48) ≡ word ((n + 48) ∷ [])
  unfolding token_of is_word bytes_of
  place-told zero h = absurd (omega arith)
  place-told (suc zero) h = refl
  place-told (suc (suc zero)) h = refl
  place-told (suc (suc (suc zero))) h = refl
  place-told (suc (suc (suc (suc zero)))) h = refl
  place-told (suc (suc (suc (suc (suc n))))) h = absurd (omega arith)

  -- slots
  slots_told : (k : ℕ) (xs : Template ℕ) → ValidSlots k (map_slots name xs) → told (code_slots xs) ≡ spell_slots (map_slots name xs)
  unfolding token_of is_word bytes_of code_slots spell_slots spell_slot map_slots ValidSlots ValidSlot
  slots_told k [] g = refl
  slots_told zero (named p ∷ xs) g = absurd g
  slots_told zero (place n ∷ xs) g = absurd g
  slots_told (suc k) (named p ∷ xs) g = rw (id_told p) (ap (λ (l : List Token). word (name p) ∷ l) (slots_told k xs g.1))
  slots_told (suc k) (place n ∷ xs) g = rw (place-told n g.0) (ap (λ (l : List Token). mark 35 ∷ word ((n + 48) ∷ []) ∷ l) (slots_told k xs g.1))

  -- a response
  response-told : (x : Response ℕ) → ValidResponse (map_response name x) → told (code_response x) ≡ spell_response (map_response name x)
  unfolding token_of is_word bytes_of keyword_of code_response spell_response map_response ValidResponse
  response-told pass g = refl
  response-told hold g = refl
  response-told (send xs) g = ap (λ (l : List Token). word send_w ∷ mark 60 ∷ l) (slots_told 4 xs g)
  response-told (anew xs) g = ap (λ (l : List Token). word anew_w ∷ mark 60 ∷ l) (slots_told 4 xs g)

  -- The code of a rule's tree, read back with a name for each id, spells the tree with those names.
  pub rule_told : (p : Past ℕ) (t : Pattern ℕ) (x : Response ℕ) → ValidResponse (map_response name x)
      → map (token_of name) (code_rule p t x) ≡ spell_past (map_past name p) ++ spell_tail (map_pattern name t) (map_response name x)
  unfolding token_of is_word bytes_of code_rule code_tail spell_tail
  rule_told p t x g =
      joined (code_past p) (59 ∷ (code_pattern t ++ (59 ∷ code_response x))) _ _ (past-told p)
      (ap (λ (l : List Token). mark 59 ∷ l) (joined (code_pattern t) (59 ∷ code_response x) _ _ (pattern-told t) (ap (λ (l : List Token). mark 59 ∷ l) (response-told x g))))
