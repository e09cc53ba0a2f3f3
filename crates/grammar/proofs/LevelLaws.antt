-- Readers put together as their parsers are: one after another, the one or else the other, and at each depth.
-- Assumes nothing.
use Rattle.std.proofs.Common.{ℕ, zero, suc, ◌+◌, ◌*◌, ◌<◌, ◌≤◌, List, length, Some, None, Bor, arith}
use Rattle.lexer.specs.Tokens.{Token, tokens}
use Rattle.grammar.specs.Parsed.{Parsed, none, some, map, bind, choose}
use Rattle.grammar.specs.Readings.{Answer, ReadingIs, Shorter, ReadsAs, ReadsAsLevel}
use Rattle.grammar.proofs.AnswerLaws.{map-answers, bind_left, bind_bad, choose-left, choose_bad, all_left, answer_le}

bad_shorter : (s : List ℕ) → Shorter s None
unfolding Shorter
bad_shorter s = tt

pub part_shorter : (s : List ℕ) (t : Bor (List ℕ)) → Shorter s (Some t) → length t.now < length s
unfolding Shorter
part_shorter s t h = h

-- what is left after a part is shorter, also where nothing more was read
rest-shorter : {A : Type 0} (p : Parsed A) (s : List ℕ) (t : Bor (List ℕ)) (r : Answer) → Shorter s (Some t) → ReadingIs p t.now r → Shorter s r
unfolding Shorter
rest-shorter p s t (Some u) h g =
    let k = answer_le p t.now u g in
    omega arith
rest-shorter p s t None h g = tt

-- a parser that a reader follows to what is left has a value
some-value : {A : Type 0} (C : Type 0) (p : Parsed A) (s : List ℕ) (t : Bor (List ℕ)) → ReadingIs p s (Some t) → (A → C) → C
unfolding ReadingIs
some-value C none s t h g = absurd h
some-value C (some a ts) s t h g = g a

pub mapped : {A B : Type 0} (f : A → B) (p : List Token → Parsed A) (s : List ℕ) (r : Answer) → ReadsAs p s r → ReadsAs (λ ts. map f (p ts)) s r
mapped f p s r h = record { shorter = h.shorter; answers = map-answers f (p (tokens s)) s r h.answers }

module _ {A B : Type 0} (p : List Token → Parsed A) (k : A → List Token → Parsed B) where
  -- one reader after another, which reads on from t or reads nothing more
  pub chain-rest : (s : List ℕ) (t : Bor (List ℕ)) (r : Answer) → ReadsAs p s (Some t) → ((a : A) → ReadingIs (k a (tokens t.now)) t.now r) → ReadsAs (λ ts. bind (p ts) k) s r
  chain-rest s t r h g = record {
    shorter = some-value (Shorter s r) (p (tokens s)) s t h.answers (λ a. rest-shorter (k a (tokens t.now)) s t r h.shorter (g a));
    answers = bind_left (p (tokens s)) k s t r h.answers g;
  }

  pub chain : (s : List ℕ) (t : Bor (List ℕ)) (r : Answer) → ReadsAs p s (Some t) → ((a : A) → ReadsAs (k a) t.now r) → ReadsAs (λ ts. bind (p ts) k) s r
  chain s t r h g = chain-rest s t r h (λ a. (g a).answers)

  pub chain_bad : (s : List ℕ) → ReadsAs p s None → ReadsAs (λ ts. bind (p ts) k) s None
  chain_bad s h = record { shorter = bad_shorter s; answers = bind_bad (p (tokens s)) k s h.answers }

  -- the one reader, and where it fails the other
  module _ (d : List Token → Parsed B) (s : List ℕ) where
    choice_rest : (t : Bor (List ℕ)) (r : Answer) → ReadsAs p s (Some t) → ((a : A) → ReadingIs (k a (tokens t.now)) t.now r) → ReadsAs (λ ts. choose (p ts) k (d ts)) s r
    choice_rest t r h g = record {
      shorter = some-value (Shorter s r) (p (tokens s)) s t h.answers (λ a. rest-shorter (k a (tokens t.now)) s t r h.shorter (g a));
      answers = choose-left (p (tokens s)) k (d (tokens s)) s t r h.answers g;
    }

    pub choice : (t : Bor (List ℕ)) (r : Answer) → ReadsAs p s (Some t) → ((a : A) → ReadsAs (k a) t.now r) → ReadsAs (λ ts. choose (p ts) k (d ts)) s r
    choice t r h g = choice_rest t r h (λ a. (g a).answers)

    pub choice_bad : (r : Answer) → ReadsAs p s None → ReadsAs d s r → ReadsAs (λ ts. choose (p ts) k (d ts)) s r
    choice_bad r h g = record { shorter = g.shorter; answers = choose_bad (p (tokens s)) k (d (tokens s)) s r h.answers g.answers }

-- the one reader, with nothing to read after it
pub choice_ends : {A B : Type 0} (p : List Token → Parsed A) (f : A → B) (d : List Token → Parsed B) (s : List ℕ) (t : Bor (List ℕ)) → ReadsAs p s (Some t)
    → ReadsAs (λ ts. choose (p ts) (λ a us. some (f a) us) (d ts)) s (Some t)
choice_ends p f d s t h = choice_rest p (λ a us. some (f a) us) d s t (Some t) h (λ a. all_left (f a) t)

-- a level's reader at one depth
pub at_depth : {A : Type 0} (l : ℕ) (parse : ℕ → List Token → Parsed A) (s : List ℕ) (r : Answer) (f : ℕ) → ReadsAsLevel l parse s r → length s * 8 + l < f → ReadsAs (parse f) s r
at_depth l parse s r f h q = record { shorter = h.shorter; answers = h.answers f q }

-- a level's reader from its readers at each depth
pub at_depths : {A : Type 0} (l : ℕ) (parse : ℕ → List Token → Parsed A) (s : List ℕ) (r : Answer) → ((f : ℕ) → length s * 8 + l < f → ReadsAs (parse f) s r) → ReadsAsLevel l parse s r
at_depths l parse s r g = record { shorter = (g (length s * 8 + l + 1) (omega arith)).shorter; answers = λ f q. (g f q).answers }

-- and with one depth taken off
pub level : {A : Type 0} (l : ℕ) (parse : ℕ → List Token → Parsed A) (s : List ℕ) (r : Answer) → ((f : ℕ) → length s * 8 + l ≤ f → ReadsAs (parse (suc f)) s r) → ReadsAsLevel l parse s r
level l parse s r g = at_depths l parse s r go
  where
    go : (f : ℕ) → length s * 8 + l < f → ReadsAs (parse f) s r
    go zero q = absurd (omega arith)
    go (suc f) q = g f (omega arith)

-- t is an end of s or all of it, and what is read from t on is read of s: what a loop keeps that reads part after part
abbrev pub ReadsOn : {A : Type 0} → ℕ → (ℕ → List Token → Parsed A) → List ℕ → List ℕ → Type 0
ReadsOn l parse s t = (length t ≤ length s) × ((r : Answer) → ReadsAsLevel l parse t r → ReadsAsLevel l parse s r)
