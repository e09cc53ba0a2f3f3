-- The loop of `encode`: the tokens coded so far, and what is left. And what the code of a text of a record is.
-- Assumes nothing.
use Rattle.std.proofs.Common.{Some, None, Bor, ◌≡◌, refl, ap, sym, ◌∙◌, Bool, false, ◌||◌, List, [], ◌∷◌, ◌++◌, append_assoc, append-nil, ℕ, suc, ◌+◌, ◌-◌, ◌<◌, ◌≤◌, arith, length, take, set, replicate, length-append, length-take, take_all, take_at}
use Rattle.std.proofs.Math.Bool.{or-false}
use Rattle.lexer.specs.Tokens.{Token, tokens}
use Rattle.code.specs.Code.{unheld, codes, any_unheld}
use Rattle.code.specs.Encoded.{code_size, Front, filled, encoded_of}
use Rattle.code.specs.declared.encode.Encoded.{Encoded}
use Rattle.code.proofs.Codes.{codes-append}
use Rattle.code.proofs.Lacks.{missing_append}
use Rattle.code.proofs.Filling.{filled_more}

-- one byte a token
codes-length : (ns : List ℕ) (ts : List Token) → length (codes ns ts) ≡ length ts
unfolding codes
codes-length ns [] = refl
codes-length ns (t ∷ ts) = ap suc (codes-length ns ts)

-- so many bytes of code are written, and this much of the text is left
pub record Going (ns s code : List ℕ) (len : ℕ) (left : List ℕ) (unknown : Bool) : Type 0 where
  pub done : List Token
  pub seen : tokens s ≡ done ++ tokens left
  pub count : length done ≡ len
  pub short : len ≤ code_size
  pub bytes : code ≡ codes ns done ++ replicate (code_size - len) 0
  pub lacking : unknown ≡ any_unheld ns done

module _ (ns s : List ℕ) where
  pub going_start : (code : List ℕ) → code ≡ replicate code_size 0 → Going ns s code 0 s false
  unfolding codes any_unheld
  going_start code h = record {
    done = [];
    seen = refl;
    count = refl;
    short = omega arith;
    bytes = h;
    lacking = refl;
  }

  module _ (code : List ℕ) (len : ℕ) (left : List ℕ) (unknown : Bool) (g : Going ns s code len left unknown) where
    pub going_shorter : (c : ℕ) (u : Bool) (after : Bor (List ℕ)) → Front ns left (Some (c, u, after)) → length after.now < length left
    unfolding Front
    going_shorter c u after h = h.0

    pub going_more : (c : ℕ) (u : Bool) (after : Bor (List ℕ)) (lacks : Bool) → Front ns left (Some (c, u, after)) → len < code_size → (unknown || u) ≡ lacks
        → Going ns s (set code len c) (len + 1) after.now lacks
    unfolding Front codes any_unheld
    going_more c u after lacks h fits e =
        let t = h.1.0 in
        let ts = g.done in
        record {
          done = ts ++ (t ∷ []);
          seen = g.seen ∙ ap (λ (us : List Token). ts ++ us) h.1.1 ∙ sym (append_assoc ts (t ∷ []) (tokens after.now));
          count = omega (arith, g.count, length-append ts (t ∷ []));
          short = omega arith;
          bytes =
              ap (λ (v : List ℕ). set v len c) g.bytes
              ∙ filled_more code_size len c (codes ns ts) (codes-length ns ts ∙ g.count) fits
              ∙ ap (λ (v : List ℕ). v ++ replicate (code_size - (len + 1)) 0) (ap (λ (x : ℕ). codes ns ts ++ (x ∷ [])) (sym h.1.2) ∙ sym (codes-append ns ts (t ∷ [])));
          lacking =
              sym e
              ∙ ap (λ (v : Bool). v || u) g.lacking
              ∙ ap (λ (v : Bool). any_unheld ns ts || v) (sym h.1.3 ∙ sym (or-false (unheld ns t)))
              ∙ sym (missing_append ns ts (t ∷ []));
        }

    -- the tokens coded are the first 126
    told : g.done ≡ take code_size (tokens s) → record { code = code; len = len; unknown = unknown } ≡ encoded_of ns (tokens s)
    unfolding encoded_of filled
    told e = rw (sym e, g.count, g.bytes, g.lacking) refl

    pub going_end : Front ns left None → record { code = code; len = len; unknown = unknown } ≡ encoded_of ns (tokens s)
    unfolding Front
    going_end h =
        let e : tokens s ≡ g.done = g.seen ∙ ap (λ (ts : List Token). g.done ++ ts) h ∙ append-nil g.done in
        told (sym (ap (take code_size) e ∙ take_all code_size g.done (omega (arith, g.count, g.short))))

    -- 126 bytes of code are full
    pub going_full : code_size ≤ len → record { code = code; len = len; unknown = unknown } ≡ encoded_of ns (tokens s)
    going_full full = told (sym (ap (take code_size) g.seen ∙ take_at g.done (tokens left) code_size (omega (arith, g.count, g.short))))

-- the code has at most 126 bytes
pub encoded_small : (ns : List ℕ) (ts : List Token) → (encoded_of ns ts).len ≤ code_size
unfolding encoded_of filled
encoded_small ns ts = omega (arith, length-take code_size ts)

-- and no more than there are tokens
pub encoded_fewer : (ns : List ℕ) (ts : List Token) → (encoded_of ns ts).len ≤ length ts
unfolding encoded_of filled
encoded_fewer ns ts = omega (arith, length-take code_size ts)

-- where the tokens are no more, each is coded, and a name that has no id is told
module _ (ns : List ℕ) (ts : List Token) (short : length ts ≤ code_size) where
  encoded_is : encoded_of ns ts ≡ filled ns ts
  unfolding encoded_of
  encoded_is = ap (filled ns) (take_all code_size ts short)

  pub encoded_codes : take (encoded_of ns ts).len (encoded_of ns ts).code ≡ codes ns ts
  unfolding filled
  encoded_codes = ap (λ (b : Encoded). take b.len b.code) encoded_is ∙ take_at (codes ns ts) (replicate (code_size - length ts) 0) (length ts) (codes-length ns ts)

  pub encoded_unknown : (encoded_of ns ts).unknown ≡ any_unheld ns ts
  unfolding filled
  encoded_unknown = ap (λ (b : Encoded). b.unknown) encoded_is
