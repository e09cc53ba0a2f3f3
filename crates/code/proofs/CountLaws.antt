-- Counting the patterns of a past: over its code as the loop goes, and over its tree.
-- Assumes nothing.
use Rattle.std.proofs.Common.{◌≡◌, refl, ap, ◌∙◌, Bool, true, false, List, [], ◌∷◌, ◌++◌, append_assoc, ℕ, zero, suc, ◌+◌, ◌<◌, ◌≤◌, add-one, arith, length, drop, get_or, replicate, drop_of_length-le, drop-cons, eq-eqb, ne_eqb}
use Rattle.grammar.specs.Trees.{Items, close, star_close, item, exact, below, Simple, any_event, items, Condition, term, or, Term, negate, simple, inside, Pattern, plain, bracketed, Past, only, either, Sequence, single, beside, Factor, starred, Base, pattern, nothing, group}
use Rattle.grammar.specs.Size.{size_past, size_sequence, size_factor, size_base}
use Rattle.code.specs.Trees.{code_items, code_simple, code_condition, code_term, code_pattern, code_past, code_sequence, code_factor, code_base}
use Rattle.code.specs.Count.{begins, more, goes_inside, patterns_from}

more_adds : (q : Bool) (n : ℕ) → more q n ≡ more q 0 + n
more_adds true n = omega arith
more_adds false n = omega arith

-- over the code

module _ (code : List ℕ) (i : ℕ) (within : Bool) where
  pub count_stop : i < length code → get_or code i 0 ≡ 59 → patterns_from within (drop i code) ≡ 0
  unfolding patterns_from
  count_stop h e = rw (drop-cons code i 0 h, eq-eqb (get_or code i 0) 59 e) refl

  pub count-more : i < length code → (get_or code i 0 ≡ 59 → ⊥)
      → patterns_from within (drop i code) ≡ more (begins within (get_or code i 0)) 0 + patterns_from (goes_inside within (get_or code i 0)) (drop (i + 1) code)
  unfolding patterns_from
  count-more h e = rw (add-one, drop-cons code i 0 h, ne_eqb (get_or code i 0) 59 e) (more_adds (begins within (get_or code i 0)) _)

  pub count-end : length code ≤ i → patterns_from within (drop i code) ≡ 0
  unfolding patterns_from
  count-end h = rw (drop_of_length-le code h) refl

pub more-small : (q : Bool) → more q 0 ≤ 1
more-small true = omega arith
more-small false = omega arith

-- over the tree: a name's byte begins nothing

name_quiet : (within : Bool) (p : ℕ) (c : List ℕ) → patterns_from within ((128 + p) ∷ c) ≡ patterns_from within c
unfolding patterns_from
name_quiet true p c = rw (ne_eqb (128 + p) 59 (λ e. omega arith), ne_eqb (128 + p) 93 (λ e. omega arith)) refl
name_quiet false p c =
    rw (ne_eqb (128 + p) 59 (λ e. omega arith), ne_eqb (128 + p) 97 (λ e. omega arith), ne_eqb (128 + p) 60 (λ e. omega arith), ne_eqb (128 + p) 91 (λ e. omega arith)) refl

items_quiet : (within : Bool) (xs : Items ℕ) (rest : List ℕ) → patterns_from within (code_items xs ++ rest) ≡ patterns_from within rest
unfolding code_items patterns_from
items_quiet true close rest = refl
items_quiet false close rest = refl
items_quiet true star_close rest = refl
items_quiet false star_close rest = refl
items_quiet true (item (exact p) xs) rest = name_quiet true p (code_items xs ++ rest) ∙ items_quiet true xs rest
items_quiet false (item (exact p) xs) rest = name_quiet false p (code_items xs ++ rest) ∙ items_quiet false xs rest
items_quiet true (item (below p) xs) rest = name_quiet true p (code_items xs ++ rest) ∙ items_quiet true xs rest
items_quiet false (item (below p) xs) rest = name_quiet false p (code_items xs ++ rest) ∙ items_quiet false xs rest

simple_quiet : (p : Simple ℕ) (rest : List ℕ) → patterns_from true (code_simple p ++ rest) ≡ patterns_from true rest
unfolding code_simple patterns_from
simple_quiet any_event rest = refl
simple_quiet (items xs) rest = items_quiet true xs rest

mutual
  unfolding code_condition code_term patterns_from

  condition_quiet : (c : Condition ℕ) (rest : List ℕ) → patterns_from true (code_condition c ++ rest) ≡ patterns_from true rest
  condition_quiet (term t) rest = term_quiet t rest
  condition_quiet (or t c) rest = rw (append_assoc (code_term t) (111 ∷ code_condition c) rest, term_quiet t (111 ∷ (code_condition c ++ rest))) (condition_quiet c rest)

  term_quiet : (t : Term ℕ) (rest : List ℕ) → patterns_from true (code_term t ++ rest) ≡ patterns_from true rest
  term_quiet (negate t) rest = term_quiet t rest
  term_quiet (simple p) rest = simple_quiet p rest
  term_quiet (inside c) rest = rw (append_assoc (code_condition c) (41 ∷ []) rest) (condition_quiet c (41 ∷ rest))

-- "a bracketed condition counts as one"
pattern-count : (p : Pattern ℕ) (rest : List ℕ) → patterns_from false (code_pattern p ++ rest) ≡ suc (patterns_from false rest)
unfolding code_pattern code_simple patterns_from
pattern-count (plain any_event) rest = refl
pattern-count (plain (items xs)) rest = ap suc (items_quiet false xs rest)
pattern-count (bracketed c) rest = ap suc (rw (append_assoc (code_condition c) (93 ∷ []) rest) (condition_quiet c (93 ∷ rest)))

stars_quiet : (n : ℕ) (rest : List ℕ) → patterns_from false (replicate n 42 ++ rest) ≡ patterns_from false rest
unfolding patterns_from
stars_quiet zero rest = refl
stars_quiet (suc n) rest = stars_quiet n rest

mutual
  unfolding code_past code_sequence code_factor code_base size_past size_sequence size_factor size_base patterns_from

  past-count : (p : Past ℕ) (rest : List ℕ) → patterns_from false (code_past p ++ rest) ≡ size_past p + patterns_from false rest
  past-count (only q) rest = sequence_count q rest
  past-count (either q p) rest =
      let a = sequence_count q (43 ∷ (code_past p ++ rest)) in
      let b = past-count p rest in
      rw (append_assoc (code_sequence q) (43 ∷ code_past p) rest) (omega arith)

  sequence_count : (q : Sequence ℕ) (rest : List ℕ) → patterns_from false (code_sequence q ++ rest) ≡ size_sequence q + patterns_from false rest
  sequence_count (single c) rest = factor_count c rest
  sequence_count (beside c q) rest =
      let a = factor_count c (code_sequence q ++ rest) in
      let b = sequence_count q rest in
      rw (append_assoc (code_factor c) (code_sequence q) rest) (omega arith)

  factor_count : (c : Factor ℕ) (rest : List ℕ) → patterns_from false (code_factor c ++ rest) ≡ size_factor c + patterns_from false rest
  factor_count (starred b n) rest =
      let a = base_count b (replicate n 42 ++ rest) in
      rw (append_assoc (code_base b) (replicate n 42) rest, ← stars_quiet n rest) a

  base_count : (b : Base ℕ) (rest : List ℕ) → patterns_from false (code_base b ++ rest) ≡ size_base b + patterns_from false rest
  base_count (pattern p) rest = let a = pattern-count p rest in omega arith
  base_count nothing rest = omega arith
  base_count (group p) rest = rw (append_assoc (code_past p) (41 ∷ []) rest) (past-count p (41 ∷ rest))

-- what is counted over the code is the size of the past that it begins with
pub count-right : (code : List ℕ) (p : Past ℕ) (rest : List ℕ) → code ≡ code_past p ++ (59 ∷ rest) → patterns_from false code ≡ size_past p
unfolding patterns_from
count-right code p rest h = let a = past-count p (59 ∷ rest) in ap (patterns_from false) h ∙ omega arith
