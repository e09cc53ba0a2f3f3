-- The readers of slots, templates and responses: a law for each answer, from the answers of the readers that they call.
-- Assumes nothing.
use Rattle.std.proofs.Common.{◌≡◌, ℕ, zero, suc, ◌-◌, Bool, true, false, List, eqb, Some, None, Bor, refl, ap, sym, arith, eqb-true, false-eqb}
use Rattle.lexer.specs.Words.{kind_number}
use Rattle.lexer.specs.First.{FirstToken}
use Rattle.lexer.specs.declared.words.WordKind.{WordKind}
use Rattle.lexer.specs.declared.words.WordKind.TheVariants as kinds
use Rattle.lexer.specs.declared.tokens.Lexeme.{Lexeme}
use Rattle.lexer.specs.declared.tokens.Lexeme.TheVariants as found
use Rattle.lexer.proofs.KindNumbers.{kind_number_same}
use Rattle.grammar.specs.Parsed.{mark_is, word_is, place_is}
use Rattle.grammar.specs.Parser.{slot_of, slots_of, template_of, response_of}
use Rattle.grammar.specs.Readings.{Answer, ReadsAs}
use Rattle.grammar.proofs.LeafLaws.{no_token, word-yes, word-no, word-other}
use Rattle.grammar.proofs.LevelLaws.{mapped, chain, chain_bad, choice, choice_bad, choice_ends}

module _ (s : List ℕ) where
  pub slot_place : (t : Bor (List ℕ)) (r : Answer) → ReadsAs (mark_is 35) s (Some t) → ReadsAs place_is t.now r → ReadsAs slot_of s r
  unfolding slot_of
  slot_place t r h g = choice _ _ _ s t r h (λ a. mapped _ _ t.now r g)

  pub slot_named : (r : Answer) → ReadsAs (mark_is 35) s None → ReadsAs (word_is 0) s r → ReadsAs slot_of s r
  unfolding slot_of
  slot_named r h g = choice_bad _ _ _ s r h (mapped _ _ s r g)

  pub slots_close : (k : ℕ) (t : Bor (List ℕ)) → ReadsAs (mark_is 62) s (Some t) → ReadsAs (slots_of k) s (Some t)
  unfolding slots_of
  slots_close zero t h = mapped _ _ s (Some t) h
  slots_close (suc k) t h = choice_ends _ _ _ s t h

  pub slots_full : (k : ℕ) → k ≡ 0 → ReadsAs (mark_is 62) s None → ReadsAs (slots_of k) s None
  unfolding slots_of
  slots_full zero e h = mapped _ _ s None h
  slots_full (suc k) e h = absurd (omega arith)

  pub slots_bad : (k : ℕ) → (k ≡ 0 → ⊥) → ReadsAs (mark_is 62) s None → ReadsAs slot_of s None → ReadsAs (slots_of k) s None
  unfolding slots_of
  slots_bad zero e h g = absurd (e refl)
  slots_bad (suc k) e h g = choice_bad _ _ _ s None h (chain_bad _ _ s g)

  pub slots_more : (k : ℕ) (t : Bor (List ℕ)) (r : Answer) → (k ≡ 0 → ⊥) → ReadsAs (mark_is 62) s None → ReadsAs slot_of s (Some t) → ReadsAs (slots_of (k - 1)) t.now r → ReadsAs (slots_of k) s r
  unfolding slots_of
  slots_more zero t r e h g i = absurd (e refl)
  slots_more (suc k) t r e h g i =
      let z : suc k - 1 ≡ k = omega arith in
      choice_bad _ _ _ s r h (chain _ _ s t r g (λ w. mapped _ _ t.now r (rw z at i)))

  pub template-yes : (t : Bor (List ℕ)) (r : Answer) → ReadsAs (mark_is 60) s (Some t) → ReadsAs (slots_of 4) t.now r → ReadsAs template_of s r
  unfolding template_of
  template-yes t r h g = chain _ _ s t r h (λ a. g)

  pub template-no : ReadsAs (mark_is 60) s None → ReadsAs template_of s None
  unfolding template_of
  template-no h = chain_bad _ _ s h

  response-pass : (t : Bor (List ℕ)) → ReadsAs (word_is 7) s (Some t) → ReadsAs response_of s (Some t)
  unfolding response_of
  response-pass t h = choice_ends _ _ _ s t h

  response-hold : (t : Bor (List ℕ)) → ReadsAs (word_is 7) s None → ReadsAs (word_is 8) s (Some t) → ReadsAs response_of s (Some t)
  unfolding response_of
  response-hold t p h = choice_bad _ _ _ s (Some t) p (choice_ends _ _ _ s t h)

  response-send : (t : Bor (List ℕ)) (r : Answer) → ReadsAs (word_is 7) s None → ReadsAs (word_is 8) s None → ReadsAs (word_is 9) s (Some t) → ReadsAs template_of t.now r → ReadsAs response_of s r
  unfolding response_of
  response-send t r p q h g = choice_bad _ _ _ s r p (choice_bad _ _ _ s r q (choice _ _ _ s t r h (λ a. mapped _ _ t.now r g)))

  response-anew : (t : Bor (List ℕ)) (r : Answer) → ReadsAs (word_is 7) s None → ReadsAs (word_is 8) s None → ReadsAs (word_is 9) s None → ReadsAs (word_is 10) s (Some t) → ReadsAs template_of t.now r → ReadsAs response_of s r
  unfolding response_of
  response-anew t r p q o h g = choice_bad _ _ _ s r p (choice_bad _ _ _ s r q (choice_bad _ _ _ s r o (chain _ _ s t r h (λ a. mapped _ _ t.now r g))))

  response_bad : ReadsAs (word_is 7) s None → ReadsAs (word_is 8) s None → ReadsAs (word_is 9) s None → ReadsAs (word_is 10) s None → ReadsAs response_of s None
  unfolding response_of
  response_bad p q o h = choice_bad _ _ _ s None p (choice_bad _ _ _ s None q (choice_bad _ _ _ s None o (chain_bad _ _ s h)))

  -- no token
  pub response_empty : FirstToken s None → ReadsAs response_of s None
  unfolding response_of word_is
  response_empty h = no_token s response_of h refl

  -- no word
  pub response_other : (l : Lexeme) (t : Bor (List ℕ)) → FirstToken s (Some (l, t)) → ((k : WordKind) (w : Bor (List ℕ)) → l ≡ found.Word k w → ⊥) → ReadsAs response_of s None
  response_other l t h f = response_bad (word-other s 7 l t h f) (word-other s 8 l t h f) (word-other s 9 l t h f) (word-other s 10 l t h f)

  -- a word of the kind k
  module _ (k : WordKind) (w t : Bor (List ℕ)) (h : FirstToken s (Some (found.Word k w, t))) where
    -- pass or hold
    pub response_alone : ((k ≡ kinds.Pass → ⊥) → k ≡ kinds.Hold) → ReadsAs response_of s (Some t)
    unfolding kind_number
    response_alone f = go (eqb (kind_number k) 7) refl
      where
        go : (q : Bool) → eqb (kind_number k) 7 ≡ q → ReadsAs response_of s (Some t)
        go true e = response-pass t (word-yes s 7 k w t h (eqb-true (kind_number k) 7 e))
        go false e =
            let n : kind_number k ≡ 7 → ⊥ = false-eqb (kind_number k) 7 (sym e) in
            response-hold t (word-no s 7 k w t h n) (word-yes s 8 k w t h (ap kind_number (f (λ i. n (ap kind_number i)))))

    -- send or anew, with a template after it
    pub response_sent : (r : Answer) → ((k ≡ kinds.Send → ⊥) → k ≡ kinds.Anew) → ReadsAs template_of t.now r → ReadsAs response_of s r
    unfolding kind_number
    response_sent r f g = go (eqb (kind_number k) 9) refl
      where
        go : (q : Bool) → eqb (kind_number k) 9 ≡ q → ReadsAs response_of s r
        go true e =
            let y : kind_number k ≡ 9 = eqb-true (kind_number k) 9 e in
            response-send t r (word-no s 7 k w t h (λ i. omega arith)) (word-no s 8 k w t h (λ i. omega arith)) (word-yes s 9 k w t h y) g
        go false e =
            let n : kind_number k ≡ 9 → ⊥ = false-eqb (kind_number k) 9 (sym e) in
            let y : kind_number k ≡ 10 = ap kind_number (f (λ i. n (ap kind_number i))) in
            response-anew t r (word-no s 7 k w t h (λ i. omega arith)) (word-no s 8 k w t h (λ i. omega arith)) (word-no s 9 k w t h n) (word-yes s 10 k w t h y) g

    -- none of the four
    pub response_word : (k ≡ kinds.Pass → ⊥) → (k ≡ kinds.Hold → ⊥) → (k ≡ kinds.Send → ⊥) → (k ≡ kinds.Anew → ⊥) → ReadsAs response_of s None
    unfolding kind_number
    response_word p q o n =
        response_bad (word-no s 7 k w t h (λ e. p (kind_number_same k kinds.Pass e))) (word-no s 8 k w t h (λ e. q (kind_number_same k kinds.Hold e)))
        (word-no s 9 k w t h (λ e. o (kind_number_same k kinds.Send e))) (word-no s 10 k w t h (λ e. n (kind_number_same k kinds.Anew e)))
