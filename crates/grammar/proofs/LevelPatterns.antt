-- The readers of items, conditions and patterns: a law for each answer, from the answers of the readers that they call.
-- Assumes nothing.
use Rattle.std.proofs.Common.{◌≡◌, ℕ, zero, suc, ◌-◌, List, Some, None, Bor, refl, arith}
use Rattle.std.specs.Option.{unwrap_or}
use Rattle.grammar.specs.Parsed.{mark_is, word_is}
use Rattle.grammar.specs.Parser.{item_of, open_of, items_of, simple_of, condition_with, term_with, condition_of, term_of, pattern_of}
use Rattle.grammar.specs.Readings.{Answer, ReadsAs, ReadsAsLevel}
use Rattle.grammar.proofs.AnswerLaws.{choose_bad, all_left}
use Rattle.grammar.proofs.LevelLaws.{part_shorter, mapped, chain, chain_bad, chain-rest, choice, choice_bad, choice_ends, at_depth, level}

module _ (s : List ℕ) where
  pub item-below : (t : Bor (List ℕ)) (r : Answer) → ReadsAs (mark_is 43) s (Some t) → ReadsAs (word_is 0) t.now r → ReadsAs item_of s r
  unfolding item_of
  item-below t r h g = choice _ _ _ s t r h (λ a. mapped _ _ t.now r g)

  pub item-exact : (r : Answer) → ReadsAs (mark_is 43) s None → ReadsAs (word_is 0) s r → ReadsAs item_of s r
  unfolding item_of
  item-exact r h g = choice_bad _ _ _ s r h (mapped _ _ s r g)

  pub open_yes : (t : Bor (List ℕ)) (r : Answer) → ReadsAs (mark_is 42) s (Some t) → ReadsAs (mark_is 62) t.now r → ReadsAs open_of s r
  unfolding open_of
  open_yes t r h g = chain _ _ s t r h (λ a. mapped _ _ t.now r g)

  pub open_no : ReadsAs (mark_is 42) s None → ReadsAs open_of s None
  unfolding open_of
  open_no h = chain_bad _ _ s h

  pub items-close : (k : ℕ) (t : Bor (List ℕ)) → ReadsAs (mark_is 62) s (Some t) → ReadsAs (items_of k) s (Some t)
  unfolding items_of
  items-close zero t h = choice_ends _ _ _ s t h
  items-close (suc k) t h = choice_ends _ _ _ s t h

  pub items-full : (k : ℕ) (r : Answer) → k ≡ 0 → ReadsAs (mark_is 62) s None → ReadsAs open_of s r → ReadsAs (items_of k) s r
  unfolding items_of
  items-full zero r e h g = choice_bad _ _ _ s r h g
  items-full (suc k) r e h g = absurd (omega arith)

  pub items_open : (k : ℕ) (r : Answer) → (k ≡ 0 → ⊥) → ReadsAs (mark_is 62) s None → ReadsAs item_of s None → ReadsAs open_of s r → ReadsAs (items_of k) s r
  unfolding items_of
  items_open zero r e h i g = absurd (e refl)
  items_open (suc k) r e h i g = choice_bad _ _ _ s r h (choice_bad _ _ _ s r i g)

  pub items_more : (k : ℕ) (t : Bor (List ℕ)) (r : Answer) → (k ≡ 0 → ⊥) → ReadsAs (mark_is 62) s None → ReadsAs item_of s (Some t) → ReadsAs (items_of (k - 1)) t.now r → ReadsAs (items_of k) s r
  unfolding items_of
  items_more zero t r e h g i = absurd (e refl)
  items_more (suc k) t r e h g i =
      let z : suc k - 1 ≡ k = omega arith in
      choice_bad _ _ _ s r h (choice _ _ _ s t r g (λ w. mapped _ _ t.now r (rw z at i)))

  pub simple-items : (t : Bor (List ℕ)) (r : Answer) → ReadsAs (mark_is 60) s (Some t) → ReadsAs (items_of 4) t.now r → ReadsAs simple_of s r
  unfolding simple_of
  simple-items t r h i = choice _ _ _ s t r h (λ a. mapped _ _ t.now r i)

  pub simple_any : (r : Answer) → ReadsAs (mark_is 60) s None → ReadsAs (word_is 4) s r → ReadsAs simple_of s r
  unfolding simple_of
  simple_any r h i = choice_bad _ _ _ s r h (mapped _ _ s r i)

  pub condition_bad : ReadsAsLevel 0 term_of s None → ReadsAsLevel 1 condition_of s None
  unfolding condition_of condition_with
  condition_bad h = level 1 condition_of s None (λ f l. chain_bad _ _ s (at_depth _ _ _ _ f h (omega arith)))

  pub condition_term : (t : Bor (List ℕ)) → ReadsAsLevel 0 term_of s (Some t) → ReadsAs (word_is 6) t.now None → ReadsAsLevel 1 condition_of s (Some t)
  unfolding condition_of condition_with
  condition_term t h m =
      let k = part_shorter s t h.shorter in
      level 1 condition_of s (Some t) (λ f l. chain-rest _ _ s t (Some t) (at_depth _ _ _ _ f h (omega arith)) (λ q. choose_bad _ _ _ t.now (Some t) m.answers (all_left _ t)))

  pub condition_or : (t u : Bor (List ℕ)) (r : Answer) → ReadsAsLevel 0 term_of s (Some t)
      → ReadsAs (word_is 6) t.now (Some u) → ReadsAsLevel 1 condition_of u.now r → ReadsAsLevel 1 condition_of s r
  unfolding condition_of condition_with
  condition_or t u r h p i =
      let a = part_shorter t.now u p.shorter in
      let b = part_shorter s t h.shorter in
      level 1 condition_of s r (λ f l. chain _ _ s t r (at_depth _ _ _ _ f h (omega arith)) (λ x. choice _ _ _ t.now u r p (λ y. mapped _ _ u.now r (at_depth _ _ _ _ f i (omega arith)))))

  pub term-not : (t : Bor (List ℕ)) (r : Answer) → ReadsAs (word_is 5) s (Some t) → ReadsAsLevel 0 term_of t.now r → ReadsAsLevel 0 term_of s r
  unfolding condition_of term_with
  term-not t r h i =
      let a = part_shorter s t h.shorter in
      level 0 term_of s r (λ f l. choice _ _ _ s t r h (λ x. mapped _ _ t.now r (at_depth _ _ _ _ f i (omega arith))))

  pub term-simple : (r : Answer) → ReadsAs (word_is 5) s None → ReadsAs (mark_is 40) s None → ReadsAs simple_of s r → ReadsAsLevel 0 term_of s r
  unfolding condition_of term_with
  term-simple r h g i = level 0 term_of s r (λ f l. choice_bad _ _ _ s r h (choice_bad _ _ _ s r g (mapped _ _ s r i)))

  pub term_bad : (t : Bor (List ℕ)) → ReadsAs (word_is 5) s None → ReadsAs (mark_is 40) s (Some t) → ReadsAsLevel 1 condition_of t.now None → ReadsAsLevel 0 term_of s None
  unfolding condition_of term_with
  term_bad t h g i =
      let a = part_shorter s t g.shorter in
      level 0 term_of s None (λ f l. choice_bad _ _ _ s None h (choice _ _ _ s t None g (λ x. chain_bad _ _ t.now (at_depth _ _ _ _ f i (omega arith)))))

  pub term-inside : (t u : Bor (List ℕ)) (r : Answer) → ReadsAs (word_is 5) s None → ReadsAs (mark_is 40) s (Some t)
      → ReadsAsLevel 1 condition_of t.now (Some u) → ReadsAs (mark_is 41) u.now r → ReadsAsLevel 0 term_of s r
  unfolding condition_of term_with
  term-inside t u r h g i j =
      let a = part_shorter s t g.shorter in
      level 0 term_of s r (λ f l. choice_bad _ _ _ s r h (choice _ _ _ s t r g (λ x. chain _ _ t.now u r (at_depth _ _ _ _ f i (omega arith)) (λ y. mapped _ _ u.now r j))))

  pub pattern-plain : (r : Answer) → ReadsAs (mark_is 91) s None → ReadsAs simple_of s r → ReadsAsLevel 2 pattern_of s r
  unfolding pattern_of
  pattern-plain r h i = level 2 pattern_of s r (λ f l. choice_bad _ _ _ s r h (mapped _ _ s r i))

  pub pattern_bad : (t : Bor (List ℕ)) → ReadsAs (mark_is 91) s (Some t) → ReadsAsLevel 1 condition_of t.now None → ReadsAsLevel 2 pattern_of s None
  unfolding pattern_of
  pattern_bad t g i =
      let a = part_shorter s t g.shorter in
      level 2 pattern_of s None (λ f l. choice _ _ _ s t None g (λ x. chain_bad _ _ t.now (at_depth _ _ _ _ (suc f) i (omega arith))))

  pub pattern-bracketed : (t u : Bor (List ℕ)) (r : Answer) → ReadsAs (mark_is 91) s (Some t)
      → ReadsAsLevel 1 condition_of t.now (Some u) → ReadsAs (mark_is 93) u.now r → ReadsAsLevel 2 pattern_of s r
  unfolding pattern_of
  pattern-bracketed t u r g i j =
      let a = part_shorter s t g.shorter in
      level 2 pattern_of s r (λ f l. choice _ _ _ s t r g (λ x. chain _ _ t.now u r (at_depth _ _ _ _ (suc f) i (omega arith)) (λ y. mapped _ _ u.now r j)))

-- a name after the + that may stand in front: t is what is left after it, or all of s
pub item-either : (s t : Bor (List ℕ)) (q r : Answer) → ReadsAs (mark_is 43) s.now q → t ≡ unwrap_or q s → ReadsAs (word_is 0) t.now r → ReadsAs item_of s.now r
item-either s t None r h e g = item-exact s.now r h (rw e at g)
item-either s t (Some u) r h e g = item-below s.now u r h (rw e at g)
