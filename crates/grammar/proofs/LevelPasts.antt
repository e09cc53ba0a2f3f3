-- The readers of stars and pasts: a law for each answer, from the answers of the readers that they call.
-- Assumes nothing.
use Rattle.std.proofs.Common.{◌≡◌, ℕ, Bool, true, false, cond, eqb, List, [], ◌∷◌, Some, None, Bor, refl, ap, sym, ◌∙◌, arith}
use Rattle.lexer.specs.Tokens.{Token, word, mark, other, tokens}
use Rattle.grammar.specs.Parsed.{none, some, mark_is}
use Rattle.grammar.specs.Parser.{pattern_of, after_stars, begins, past_with, sequence_with, factor_with, base_with, past_of, sequence_of, factor_of, base_of}
use Rattle.grammar.specs.Readings.{Answer, EndOf, ReadingIs, ReadsAs, ReadsAsLevel, StarsPassed}
use Rattle.grammar.proofs.AnswerLaws.{end_all, end_of_end, map-answers, choose_bad, when_true, when_false, all_left}
use Rattle.grammar.proofs.LevelLaws.{part_shorter, mapped, chain, chain_bad, chain-rest, choice, choice_bad, choice_ends, at_depth, level}

no-star : (s : List ℕ) (ts : List Token) → ReadingIs (mark_is 42 ts) s None → ts ≡ after_stars ts
unfolding ReadingIs mark_is after_stars
no-star s [] h = refl
no-star s (word w ∷ ts) h = refl
no-star s (mark m ∷ ts) h = go (eqb m 42) h
  where
    go : (q : Bool) → ReadingIs (cond q (some (tt {0}) ts) none) s None → mark m ∷ ts ≡ cond q (after_stars ts) (mark m ∷ ts)
    go true h = absurd h
    go false h = refl
no-star s (other o ∷ ts) h = refl

star : (s : List ℕ) (t : Bor (List ℕ)) (ts : List Token) → ReadingIs (mark_is 42 ts) s (Some t) → EndOf s t.now × (after_stars ts ≡ after_stars (tokens t.now))
unfolding ReadingIs mark_is after_stars
star s t [] h = absurd h
star s t (word w ∷ ts) h = absurd h
star s t (mark m ∷ ts) h = go (eqb m 42) h
  where
    go : (q : Bool) → ReadingIs (cond q (some (tt {0}) ts) none) s (Some t) → EndOf s t.now × (cond q (after_stars ts) (mark m ∷ ts) ≡ after_stars (tokens t.now))
    go true h = (h.0, ap after_stars (sym h.1))
    go false h = absurd h
star s t (other o ∷ ts) h = absurd h

pub stars_stop : (s : List ℕ) → ReadsAs (mark_is 42) s None → StarsPassed s s
stars_stop s h = record { end = end_all s; left = no-star s (tokens s) h.answers }

pub stars_more : (s : List ℕ) (t : Bor (List ℕ)) (u : List ℕ) → ReadsAs (mark_is 42) s (Some t) → StarsPassed t.now u → StarsPassed s u
stars_more s t u h g =
    let k = star s t (tokens s) h.answers in
    record { end = end_of_end s t.now u k.0 g.end; left = g.left ∙ sym k.1 }

some_left : {A : Type 0} (a : A) (ts : List Token) (s : List ℕ) (t : Bor (List ℕ)) → EndOf s t.now → tokens t.now ≡ ts → ReadingIs (some a ts) s (Some t)
unfolding ReadingIs
some_left a ts s t h e = (h, e)

module _ (s : List ℕ) where
  pub past_bad : ReadsAsLevel 5 sequence_of s None → ReadsAsLevel 6 past_of s None
  unfolding past_of past_with
  past_bad h = level 6 past_of s None (λ f l. chain_bad _ _ s (at_depth _ _ _ _ f h (omega arith)))

  pub past-only : (t : Bor (List ℕ)) → ReadsAsLevel 5 sequence_of s (Some t) → ReadsAs (mark_is 43) t.now None → ReadsAsLevel 6 past_of s (Some t)
  unfolding past_of past_with
  past-only t h m =
      let k = part_shorter s t h.shorter in
      level 6 past_of s (Some t) (λ f l. chain-rest _ _ s t (Some t) (at_depth _ _ _ _ f h (omega arith)) (λ q. choose_bad _ _ _ t.now (Some t) m.answers (all_left _ t)))

  pub past-either : (t u : Bor (List ℕ)) (r : Answer) → ReadsAsLevel 5 sequence_of s (Some t)
      → ReadsAs (mark_is 43) t.now (Some u) → ReadsAsLevel 6 past_of u.now r → ReadsAsLevel 6 past_of s r
  unfolding past_of past_with
  past-either t u r h p i =
      let a = part_shorter t.now u p.shorter in
      let b = part_shorter s t h.shorter in
      level 6 past_of s r (λ f l. chain _ _ s t r (at_depth _ _ _ _ f h (omega arith)) (λ x. choice _ _ _ t.now u r p (λ y. mapped _ _ u.now r (at_depth _ _ _ _ f i (omega arith)))))

  pub sequence_bad : ReadsAsLevel 4 factor_of s None → ReadsAsLevel 5 sequence_of s None
  unfolding past_of sequence_with
  sequence_bad h = level 5 sequence_of s None (λ f l. chain_bad _ _ s (at_depth _ _ _ _ f h (omega arith)))

  pub sequence_single : (t : Bor (List ℕ)) → ReadsAsLevel 4 factor_of s (Some t) → begins (tokens t.now) ≡ false → ReadsAsLevel 5 sequence_of s (Some t)
  unfolding past_of sequence_with
  sequence_single t h b =
      let k = part_shorter s t h.shorter in
      level 5 sequence_of s (Some t) (λ f l. chain-rest _ _ s t (Some t) (at_depth _ _ _ _ f h (omega arith)) (λ q. when_false _ _ _ t.now (Some t) b (all_left _ t)))

  pub sequence_beside : (t : Bor (List ℕ)) (r : Answer) → ReadsAsLevel 4 factor_of s (Some t) → begins (tokens t.now) ≡ true
      → ReadsAsLevel 5 sequence_of t.now r → ReadsAsLevel 5 sequence_of s r
  unfolding past_of sequence_with
  sequence_beside t r h b i =
      let a = part_shorter s t h.shorter in
      level 5 sequence_of s r (λ f l. chain-rest _ _ s t r (at_depth _ _ _ _ f h (omega arith)) (λ q. when_true _ _ _ t.now r b (map-answers _ _ t.now r (i.answers f (omega arith)))))

  pub factor_bad : ReadsAsLevel 3 base_of s None → ReadsAsLevel 4 factor_of s None
  unfolding past_of factor_with
  factor_bad h = level 4 factor_of s None (λ f l. chain_bad _ _ s (at_depth _ _ _ _ f h (omega arith)))

  pub factor_stars : (t u : Bor (List ℕ)) → ReadsAsLevel 3 base_of s (Some t) → StarsPassed t.now u.now → ReadsAsLevel 4 factor_of s (Some u)
  unfolding past_of factor_with
  factor_stars t u h g =
      level 4 factor_of s (Some u) (λ f l. chain-rest _ _ s t (Some u) (at_depth _ _ _ _ f h (omega arith)) (λ b. some_left _ (after_stars (tokens t.now)) t.now u g.end g.left))

  pub base_pattern : (r : Answer) → ReadsAs (mark_is 40) s None → ReadsAsLevel 2 pattern_of s r → ReadsAsLevel 3 base_of s r
  unfolding past_of base_with
  base_pattern r h i = level 3 base_of s r (λ f l. choice_bad _ _ _ s r h (mapped _ _ s r (at_depth _ _ _ _ f i (omega arith))))

  pub base_nothing : (t u : Bor (List ℕ)) → ReadsAs (mark_is 40) s (Some t) → ReadsAs (mark_is 41) t.now (Some u) → ReadsAsLevel 3 base_of s (Some u)
  unfolding past_of base_with
  base_nothing t u h p = level 3 base_of s (Some u) (λ f l. choice _ _ _ s t (Some u) h (λ x. choice_ends _ _ _ t.now u p))

  pub base_bad : (t : Bor (List ℕ)) → ReadsAs (mark_is 40) s (Some t) → ReadsAs (mark_is 41) t.now None → ReadsAsLevel 6 past_of t.now None → ReadsAsLevel 3 base_of s None
  unfolding past_of base_with
  base_bad t h p i =
      let a = part_shorter s t h.shorter in
      level 3 base_of s None (λ f l. choice _ _ _ s t None h (λ x. choice_bad _ _ _ t.now None p (chain_bad _ _ t.now (at_depth _ _ _ _ f i (omega arith)))))

  pub base_group : (t u : Bor (List ℕ)) (r : Answer) → ReadsAs (mark_is 40) s (Some t) → ReadsAs (mark_is 41) t.now None
      → ReadsAsLevel 6 past_of t.now (Some u) → ReadsAs (mark_is 41) u.now r → ReadsAsLevel 3 base_of s r
  unfolding past_of base_with
  base_group t u r h p i j =
      let a = part_shorter s t h.shorter in
      level 3 base_of s r (λ f l. choice _ _ _ s t r h (λ x. choice_bad _ _ _ t.now r p (chain _ _ t.now u r (at_depth _ _ _ _ f i (omega arith)) (λ y. mapped _ _ u.now r j))))
