-- The first token of a text: what `next` answers of the text's tokens, and that token as code.
-- Assumes nothing.
use Rattle.std.proofs.Common.{◌≡◌, refl, sym, ◌∙◌, true, false, List, [], ◌∷◌, ℕ, zero, suc, ◌+◌, ◌<◌, ◌≤◌, arith, length, Option, Some, None, Bor, eqb, eq-eqb, ne_eqb}
use Rattle.std.proofs.Math.ListN.{get_or-eq_default}
use Rattle.lexer.specs.Words.{kind_of, kind_number, name_k, zero_k}
use Rattle.lexer.specs.Tokens.{word, mark, other, tokens, last, Next}
use Rattle.lexer.specs.First.{FirstToken, by_numbers, Parts}
use Rattle.lexer.specs.declared.words.WordKind.{WordKind}
use Rattle.lexer.specs.declared.words.WordKind.TheVariants as kinds
use Rattle.lexer.specs.declared.tokens.Lexeme.{Lexeme}
use Rattle.lexer.specs.declared.tokens.Lexeme.TheVariants.{Word, Mark, Other}
use Rattle.lexer.proofs.KindNumbers.{kind_number_same}
use Rattle.lexer.proofs.NextLaws.{next_means}
use Rattle.code.specs.Code.{id_of, letters, byte_of_kind, code_of, unheld}
use Rattle.code.specs.Encoded.{Front}

-- the byte of a digit's word; a kind above those of ten digits has none
pub digit-byte : (d : ℕ) → d < 10 → 48 + d ≡ byte_of_kind (zero_k + d)
unfolding byte_of_kind
digit-byte zero h = refl
digit-byte (suc zero) h = refl
digit-byte (suc (suc zero)) h = refl
digit-byte (suc (suc (suc zero))) h = refl
digit-byte (suc (suc (suc (suc zero)))) h = refl
digit-byte (suc (suc (suc (suc (suc zero))))) h = refl
digit-byte (suc (suc (suc (suc (suc (suc zero)))))) h = refl
digit-byte (suc (suc (suc (suc (suc (suc (suc zero))))))) h = refl
digit-byte (suc (suc (suc (suc (suc (suc (suc (suc zero)))))))) h = refl
digit-byte (suc (suc (suc (suc (suc (suc (suc (suc (suc zero))))))))) h = refl
digit-byte (suc (suc (suc (suc (suc (suc (suc (suc (suc (suc d)))))))))) h = absurd (omega arith)

pub digit-none : (d : ℕ) → 10 ≤ d → 0 ≡ byte_of_kind (zero_k + d)
unfolding byte_of_kind
digit-none d h = let k : 22 ≤ zero_k + d = omega arith in sym (get_or-eq_default letters 0 k)

-- what an answer of `next` tells: no token; or the first token, and the tokens of what is left, which is shorter and the text's end
abbrev pub Begins : List ℕ → Option (Lexeme × Bor (List ℕ)) → Type 0
Begins s None = tokens s ≡ []
Begins s (Some (Word k w, left)) = (length left.now < length s) × (tokens s ≡ word w.now ∷ tokens left.now) × (kind_number k ≡ kind_of w.now) × (left.now ≡ last (length left.now) s)
Begins s (Some (Mark b, left)) = (length left.now < length s) × (tokens s ≡ mark b ∷ tokens left.now) × (left.now ≡ last (length left.now) s)
Begins s (Some (Other b, left)) = (length left.now < length s) × (tokens s ≡ other b ∷ tokens left.now) × (left.now ≡ last (length left.now) s)

begins : (s : List ℕ) (r : Option (Lexeme × Bor (List ℕ))) → Next s (by_numbers r) → Parts s r → Begins s r
unfolding Next
begins s None h p = h
begins s (Some (Word k w, left)) h p =
    (h.0, h.1.2 ∙ rw (sym p.1, sym (p.0 ∙ h.1.3)) refl, rw (p.0 ∙ h.1.3) (sym h.1.1), p.1)
begins s (Some (Mark b, left)) h p = (h.0, h.1 ∙ rw (sym p) refl, p)
begins s (Some (Other b, left)) h p = (h.0, h.1 ∙ rw (sym p) refl, p)

pub first-begins : {s : List ℕ} {r : Option (Lexeme × Bor (List ℕ))} → FirstToken s r → Begins s r
first-begins {s} {r} h = begins s r (next_means s (by_numbers r) h.told) h.parts

module _ (ns s : List ℕ) (left : Bor (List ℕ)) where
  pub front_mark : (b : ℕ) → Begins s (Some (Mark b, left)) → Front ns s (Some (b, false, left))
  unfolding Front code_of unheld
  front_mark b h = (h.0, (mark b, h.1, refl, refl, h.2))

  pub front_other : (b : ℕ) → Begins s (Some (Other b, left)) → Front ns s (Some (0, false, left))
  unfolding Front code_of unheld
  front_other b h = (h.0, (other b, h.1, refl, refl, h.2))

  -- a word that is no name
  pub front_letter : (k : WordKind) (w : Bor (List ℕ)) → Begins s (Some (Word k w, left)) → (k ≡ kinds.Name → ⊥) → Front ns s (Some (byte_of_kind (kind_number k), false, left))
  unfolding Front code_of unheld kind_number
  front_letter k w h z =
      let e : kind_of w.now ≡ name_k → ⊥ = λ q. z (kind_number_same k kinds.Name (h.2 ∙ q)) in
      (h.0, (word w.now, h.1, rw (ne_eqb (kind_of w.now) 0 e, h.2) refl, rw (ne_eqb (kind_of w.now) 0 e) refl, h.3))

  -- a name: 128 and its id
  pub front_name : (w : Bor (List ℕ)) (i : ℕ) → Begins s (Some (Word kinds.Name w, left)) → i ≡ id_of ns w.now → Front ns s (Some (128 + i, eqb i 127, left))
  unfolding Front code_of unheld kind_number
  front_name w i h r =
      let e : eqb (kind_of w.now) 0 ≡ true = eq-eqb (kind_of w.now) 0 (sym h.2) in
      (h.0, (word w.now, h.1, rw (e, r) refl, rw (e, r) refl, h.3))
