-- The readers of one token: a law for each answer.
-- Assumes nothing.
use Rattle.std.proofs.Common.{◌≡◌, ℕ, ◌<◌, ◌≤◌, ◌+◌, Bool, true, false, List, [], ◌∷◌, length, eqb, Option, Some, None, Bor, not, ◌-◌, refl, ap, sym, ◌∙◌, arith, eq-eqb, ne_eqb, le_of_lt}
use Rattle.std.specs.Bool.{then_some, Decides}
use Rattle.std.proofs.lemmas.Bool.Decides.{nat_tests}
use Rattle.std.specs.Option.{is_some}
use Rattle.lexer.specs.Class.{within}
use Rattle.lexer.specs.Words.{kind_of, kind_number}
use Rattle.lexer.specs.Tokens.{Token, word, mark, other, tokens, last, Next}
use Rattle.lexer.specs.First.{FirstToken, by_numbers}
use Rattle.lexer.specs.declared.words.WordKind.{WordKind}
use Rattle.lexer.specs.declared.words.WordKind.TheVariants as kinds
use Rattle.lexer.specs.declared.tokens.Lexeme as declared
use Rattle.lexer.specs.declared.tokens.Lexeme.TheVariants as found
use Rattle.lexer.proofs.NextLaws.{next_means}
use Rattle.lexer.proofs.KindNumbers.{kind_number_same}
use Rattle.grammar.specs.Parsed.{Parsed, none, some, mark_is, word_is, place_is, is_none}
use Rattle.grammar.specs.Parser.{begins}
use Rattle.grammar.specs.Readings.{EndOf, ReadingIs, Shorter, ReadsAs}

-- s begins with the token k, and t is what is left after it
record Led (s : List ℕ) (k : Token) (t : List ℕ) : Type 0 where
  pub shorter : length t < length s
  pub end : EndOf s t
  pub all : tokens s ≡ k ∷ tokens t

led : (s : List ℕ) (k : Token) (t : List ℕ) → length t < length s → tokens s ≡ k ∷ tokens (last (length t) s) → t ≡ last (length t) s → Led s k t
led s k t l e q = record {
  shorter = l;
  end = record { fits = le_of_lt l; bytes = q };
  all = e ∙ ap (λ (u : List ℕ). k ∷ tokens u) (sym q);
}

-- no other kind than that of a digit from 1 to 4 has the number of a place
no_place : (k : WordKind) → ((d : ℕ) → k ≡ kinds.Digit d → 1 ≤ d → d ≤ 4 → ⊥) → within 13 16 (kind_number k) ≡ false
unfolding kind_number
no_place kinds.Name f = refl
no_place kinds.Role f = refl
no_place kinds.Under f = refl
no_place kinds.Rule f = refl
no_place kinds.Any f = refl
no_place kinds.Not f = refl
no_place kinds.Or f = refl
no_place kinds.Pass f = refl
no_place kinds.Hold f = refl
no_place kinds.Send f = refl
no_place kinds.Anew f = refl
no_place (kinds.Digit d) f =
    let g : 1 ≤ d → d ≤ 4 → ⊥ = f d refl in
    grind (arith, nat_tests)
no_place kinds.Other f = refl

-- what each answer of `next` tells
module _ (s : List ℕ) where
  none-led : FirstToken s None → tokens s ≡ []
  unfolding Next
  none-led h = next_means s (by_numbers None) h.told

  mark-led : (m : ℕ) (t : Bor (List ℕ)) → FirstToken s (Some (found.Mark m, t)) → Led s (mark m) t.now
  unfolding Next
  mark-led m t h = let n = next_means s (by_numbers (Some (found.Mark m, t))) h.told in led s (mark m) t.now n.0 n.1 h.parts

  other-led : (o : ℕ) (t : Bor (List ℕ)) → FirstToken s (Some (found.Other o, t)) → Led s (other o) t.now
  unfolding Next
  other-led o t h = let n = next_means s (by_numbers (Some (found.Other o, t))) h.told in led s (other o) t.now n.0 n.1 h.parts

  word-led : (k : WordKind) (w t : Bor (List ℕ)) → FirstToken s (Some (found.Word k w, t)) → (u : List ℕ) × (kind_of u ≡ kind_number k) × Led s (word u) t.now
  unfolding Next
  word-led k w t h =
      let n = next_means s (by_numbers (Some (found.Word k w, t))) h.told in
      (n.1.0, n.1.1, led s (word n.1.0) t.now n.0 n.1.2 h.parts.1)

  -- a reader of one token, by what its parser does with the token in front
  module _ {A : Type 0} (parse : List Token → Parsed A) where
    takes : (k : Token) (t : Bor (List ℕ)) (a : A) → Led s k t.now → parse (k ∷ tokens t.now) ≡ some a (tokens t.now) → ReadsAs parse s (Some t)
    unfolding ReadingIs Shorter
    takes k t a h e = record { shorter = h.shorter; answers = rw (h.all, e) (h.end, refl) }

    leaves : (k : Token) (t : List ℕ) → Led s k t → parse (k ∷ tokens t) ≡ none → ReadsAs parse s None
    unfolding ReadingIs Shorter
    leaves k t h e = record { shorter = tt; answers = rw (h.all, e) tt }

    -- no token is left
    pub no_token : FirstToken s None → parse [] ≡ none → ReadsAs parse s None
    unfolding ReadingIs Shorter
    no_token h e = record { shorter = tt; answers = rw (none-led h, e) tt }

  -- the mark b, or another mark
  pub mark-read : (b m : ℕ) (t : Bor (List ℕ)) → FirstToken s (Some (found.Mark m, t)) → ReadsAs (mark_is b) s (then_some (eqb m b) t)
  unfolding mark_is
  mark-read b m t h = go (eqb m b) refl
    where
      go : (q : Bool) → eqb m b ≡ q → ReadsAs (mark_is b) s (then_some q t)
      go true e = takes (mark_is b) (mark m) t tt (mark-led m t h) (rw e refl)
      go false e = leaves (mark_is b) (mark m) t.now (mark-led m t h) (rw e refl)

  -- no mark
  pub mark-other : (b : ℕ) (l : declared.Lexeme) (t : Bor (List ℕ)) → FirstToken s (Some (l, t)) → ((m : ℕ) → l ≡ found.Mark m → ⊥) → ReadsAs (mark_is b) s None
  unfolding mark_is
  mark-other b (found.Word k w) t h f = let n = word-led k w t h in leaves (mark_is b) (word n.0) t.now n.2 refl
  mark-other b (found.Mark m) t h f = absurd (f m refl)
  mark-other b (found.Other o) t h f = leaves (mark_is b) (other o) t.now (other-led o t h) refl

  -- a word of the kind of that number, or of another
  pub word-yes : (n : ℕ) (k : WordKind) (w t : Bor (List ℕ)) → FirstToken s (Some (found.Word k w, t)) → kind_number k ≡ n → ReadsAs (word_is n) s (Some t)
  unfolding word_is
  word-yes n k w t h e =
      let u = word-led k w t h in
      takes (word_is n) (word u.0) t u.0 u.2 (rw (eq-eqb (kind_of u.0) n (u.1 ∙ e)) refl)

  pub word-no : (n : ℕ) (k : WordKind) (w t : Bor (List ℕ)) → FirstToken s (Some (found.Word k w, t)) → (kind_number k ≡ n → ⊥) → ReadsAs (word_is n) s None
  unfolding word_is
  word-no n k w t h f =
      let u = word-led k w t h in
      leaves (word_is n) (word u.0) t.now u.2 (rw (ne_eqb (kind_of u.0) n (λ e. f (sym u.1 ∙ e))) refl)

  -- a word of that kind, or of another
  pub word-read : (k kind : WordKind) (w t : Bor (List ℕ)) (q : Bool) → FirstToken s (Some (found.Word k w, t)) → Decides q (k ≡ kind)
      → ReadsAs (word_is (kind_number kind)) s (then_some q t)
  word-read k kind w t true h d = word-yes (kind_number kind) k w t h (ap kind_number (d.0 refl))
  word-read k kind w t false h d = word-no (kind_number kind) k w t h (λ e. let y = d.1 (kind_number_same k kind e) in cc)

  -- no word
  pub word-other : (kind : ℕ) (l : declared.Lexeme) (t : Bor (List ℕ)) → FirstToken s (Some (l, t)) → ((k : WordKind) (w : Bor (List ℕ)) → l ≡ found.Word k w → ⊥) → ReadsAs (word_is kind) s None
  unfolding word_is
  word-other kind (found.Word k w) t h f = absurd (f k w refl)
  word-other kind (found.Mark m) t h f = leaves (word_is kind) (mark m) t.now (mark-led m t h) refl
  word-other kind (found.Other o) t h f = leaves (word_is kind) (other o) t.now (other-led o t h) refl

  -- a digit from 1 to 4
  pub place-yes : (d : ℕ) (w t : Bor (List ℕ)) → FirstToken s (Some (found.Word (kinds.Digit d) w, t)) → 1 ≤ d → d ≤ 4 → ReadsAs place_is s (Some t)
  unfolding place_is kind_number
  place-yes d w t h l m =
      let n = word-led (kinds.Digit d) w t h in
      let e : within 13 16 (12 + d) ≡ true = grind (arith, nat_tests) in
      takes place_is (word n.0) t (kind_of n.0 - 12) n.2 (rw (n.1, e) refl)

  -- a word whose kind has the number of no place
  place-word : (k : WordKind) (w t : Bor (List ℕ)) → FirstToken s (Some (found.Word k w, t)) → within 13 16 (kind_number k) ≡ false → ReadsAs place_is s None
  unfolding place_is
  place-word k w t h e =
      let n = word-led k w t h in
      leaves place_is (word n.0) t.now n.2 (rw (n.1, e) refl)

  -- no digit from 1 to 4
  pub place-no : (l : declared.Lexeme) (t : Bor (List ℕ)) → FirstToken s (Some (l, t))
      → ((d : ℕ) (w : Bor (List ℕ)) → l ≡ found.Word (kinds.Digit d) w → 1 ≤ d → d ≤ 4 → ⊥) → ReadsAs place_is s None
  unfolding place_is
  place-no (found.Word k w) t h f = place-word k w t h (no_place k (λ d e. f d w (ap (λ (x : WordKind). found.Word x w) e)))
  place-no (found.Mark m) t h f = leaves place_is (mark m) t.now (mark-led m t h) refl
  place-no (found.Other o) t h f = leaves place_is (other o) t.now (other-led o t h) refl

  -- whether no token is left
  pub ends-is : (r : Option (declared.Lexeme × Bor (List ℕ))) (q : Bool) → FirstToken s r → is_some r ≡ not q → q ≡ is_none (tokens s)
  unfolding is_none
  ends-is None true h e = rw (none-led h) refl
  ends-is None false h e = let z : ◌≡◌ {A = ℕ} 0 1 = cc in absurd (omega arith)
  ends-is (Some (found.Word k w, t)) true h e = let z : ◌≡◌ {A = ℕ} 0 1 = cc in absurd (omega arith)
  ends-is (Some (found.Word k w, t)) false h e = rw (word-led k w t h).2.all refl
  ends-is (Some (found.Mark m, t)) true h e = let z : ◌≡◌ {A = ℕ} 0 1 = cc in absurd (omega arith)
  ends-is (Some (found.Mark m, t)) false h e = rw (mark-led m t h).all refl
  ends-is (Some (found.Other o, t)) true h e = let z : ◌≡◌ {A = ℕ} 0 1 = cc in absurd (omega arith)
  ends-is (Some (found.Other o, t)) false h e = rw (other-led o t h).all refl

  -- no factor begins where no token is left
  pub begins_none : FirstToken s None → false ≡ begins (tokens s)
  unfolding begins
  begins_none h = rw (none-led h) refl

  -- a factor begins with each of its three marks and with any
  pub begins_yes : (l : declared.Lexeme) (t : Bor (List ℕ)) → FirstToken s (Some (l, t)) → ((m : ℕ) → l ≡ found.Mark m → (m ≡ 60 → ⊥) → (m ≡ 40 → ⊥) → m ≡ 91)
      → ((k : WordKind) (w : Bor (List ℕ)) → l ≡ found.Word k w → k ≡ kinds.Any) → ((o : ℕ) → l ≡ found.Other o → ⊥) → true ≡ begins (tokens s)
  unfolding begins kind_number
  begins_yes (found.Word k w) t h a b d = let n = word-led k w t h in rw (n.2.all, n.1, b k w refl) refl
  begins_yes (found.Mark m) t h a b d =
      let y : (m ≡ 60 → ⊥) → (m ≡ 40 → ⊥) → m ≡ 91 = a m refl in
      rw (mark-led m t h).all (grind (arith, nat_tests))
  begins_yes (found.Other o) t h a b d = absurd (d o refl)

  -- and with nothing else
  pub begins_no : (l : declared.Lexeme) (t : Bor (List ℕ)) → FirstToken s (Some (l, t)) → ((m : ℕ) → l ≡ found.Mark m → (m ≡ 60 → ⊥) × (m ≡ 40 → ⊥) × (m ≡ 91 → ⊥))
      → ((k : WordKind) (w : Bor (List ℕ)) → l ≡ found.Word k w → k ≡ kinds.Any → ⊥) → false ≡ begins (tokens s)
  unfolding begins kind_number
  begins_no (found.Word k w) t h a b =
      let n = word-led k w t h in
      rw (n.2.all, n.1, ne_eqb (kind_number k) 4 (λ e. b k w refl (kind_number_same k kinds.Any e))) refl
  begins_no (found.Mark m) t h a b =
      let y = a m refl in
      rw (mark-led m t h).all (grind (arith, nat_tests))
  begins_no (found.Other o) t h a b = rw (other-led o t h).all refl
