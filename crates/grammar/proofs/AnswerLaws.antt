-- A reader's answers put together as the parsers are.
-- Assumes nothing.
use Rattle.std.proofs.Common.{◌≡◌, ℕ, ◌≤◌, Bool, true, false, cond, List, length, Some, None, Bor, refl, ap, sym, ◌∙◌, subst, le_refl, arith}
use Rattle.std.specs.Option.{MatchOption}
use Rattle.lexer.specs.Tokens.{Token, tokens, last}
use Rattle.lexer.proofs.TokenLaws.{last-last, last-all}
use Rattle.grammar.specs.Parsed.{Parsed, none, some, map, bind, choose, is_none, whole}
use Rattle.grammar.specs.Readings.{Answer, EndOf, ReadingIs}

-- all of a text is its end
pub end_all : (s : List ℕ) → EndOf s s
end_all s = record { fits = le_refl (length s); bytes = sym (last-all s) }

-- the end of a text's end is the text's
pub end_of_end : (s t u : List ℕ) → EndOf s t → EndOf t u → EndOf s u
end_of_end s t u h g = record {
  fits = omega (arith, h.fits, g.fits);
  bytes = g.bytes ∙ ap (last (length u)) h.bytes ∙ last-last (length u) (length t) s g.fits h.fits;
}

pub map-answers : {A B : Type 0} (f : A → B) (p : Parsed A) (s : List ℕ) (r : Answer) → ReadingIs p s r → ReadingIs (map f p) s r
unfolding ReadingIs
map-answers f none s (Some t) h = h
map-answers f none s None h = h
map-answers f (some a ts) s (Some t) h = h
map-answers f (some a ts) s None h = h

-- what is left of a text's end is left of the text
carry : {A : Type 0} (p : Parsed A) (s t : List ℕ) (r : Answer) → EndOf s t → ReadingIs p t r → ReadingIs p s r
unfolding ReadingIs
carry none s t (Some u) e h = h
carry none s t None e h = h
carry (some a ts) s t (Some u) e h = (end_of_end s t u.now e h.0, h.1)
carry (some a ts) s t None e h = h

-- t is what the first reader left, and the second reads on from there
pub bind_left : {A B : Type 0} (p : Parsed A) (k : A → List Token → Parsed B) (s : List ℕ) (t : Bor (List ℕ)) (r : Answer) → ReadingIs p s (Some t)
    → ((a : A) → ReadingIs (k a (tokens t.now)) t.now r) → ReadingIs (bind p k) s r
unfolding ReadingIs
bind_left none k s t r h g = absurd h
bind_left (some a ts) k s t r h g = subst (λ (us : List Token). ReadingIs (k a us) s r) h.1 (carry (k a (tokens t.now)) s t.now r h.0 (g a))

pub bind_bad : {A B : Type 0} (p : Parsed A) (k : A → List Token → Parsed B) (s : List ℕ) → ReadingIs p s None → ReadingIs (bind p k) s None
unfolding ReadingIs
bind_bad none k s h = tt
bind_bad (some a ts) k s h = absurd h

pub choose-left : {A B : Type 0} (p : Parsed A) (k : A → List Token → Parsed B) (d : Parsed B) (s : List ℕ) (t : Bor (List ℕ)) (r : Answer) → ReadingIs p s (Some t)
    → ((a : A) → ReadingIs (k a (tokens t.now)) t.now r) → ReadingIs (choose p k d) s r
unfolding ReadingIs
choose-left none k d s t r h g = absurd h
choose-left (some a ts) k d s t r h g = subst (λ (us : List Token). ReadingIs (k a us) s r) h.1 (carry (k a (tokens t.now)) s t.now r h.0 (g a))

pub choose_bad : {A B : Type 0} (p : Parsed A) (k : A → List Token → Parsed B) (d : Parsed B) (s : List ℕ) (r : Answer) → ReadingIs p s None → ReadingIs d s r → ReadingIs (choose p k d) s r
unfolding ReadingIs
choose_bad none k d s r h g = g
choose_bad (some a ts) k d s r h g = absurd h

pub when_true : {A : Type 0} (q : Bool) (p d : Parsed A) (s : List ℕ) (r : Answer) → q ≡ true → ReadingIs p s r → ReadingIs (cond q p d) s r
when_true q p d s r e h = rw e h

pub when_false : {A : Type 0} (q : Bool) (p d : Parsed A) (s : List ℕ) (r : Answer) → q ≡ false → ReadingIs d s r → ReadingIs (cond q p d) s r
when_false q p d s r e h = rw e h

-- everything is left
pub all_left : {A : Type 0} (a : A) (t : Bor (List ℕ)) → ReadingIs (some a (tokens t.now)) t.now (Some t)
unfolding ReadingIs
all_left a t = (end_all t.now, refl)

-- whether all was read
pub whole_is : {A : Type 0} (p : Parsed A) (s : List ℕ) (r : Answer) (b : Bool) → ReadingIs p s r → MatchOption r (b ≡ false) (λ t. b ≡ is_none (tokens t.now)) → b ≡ whole p
unfolding ReadingIs whole
whole_is none s (Some t) b h g = absurd h
whole_is none s None b h g = g
whole_is (some a ts) s (Some t) b h g = g ∙ ap is_none h.1
whole_is (some a ts) s None b h g = absurd h

pub answer_le : {A : Type 0} (p : Parsed A) (s : List ℕ) (t : Bor (List ℕ)) → ReadingIs p s (Some t) → length t.now ≤ length s
unfolding ReadingIs
answer_le none s t h = absurd h
answer_le (some a ts) s t h = h.0.fits
