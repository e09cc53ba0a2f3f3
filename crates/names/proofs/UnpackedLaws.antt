-- Laws of the bytes of a packed name: at most eight, and those of the name that was packed.
-- Assumes nothing.
use Rattle.std.proofs.Common.{◌≡◌, refl, ap, ◌∙◌, Bool, cond, not, List, [], ◌∷◌, ℕ, zero, suc, ◌<◌, ◌≤◌, arith, length, get_or, ne_eqb}
use Rattle.lexer.specs.Run.{run}
use Rattle.lexer.specs.Words.{kind_of, name_k}
use Rattle.lexer.proofs.RunLaws.{run_length}
use Rattle.lexer.specs.Class.{Wordy}
use Rattle.names.specs.Name.{column_of, packed, column_at}
use Rattle.names.specs.Shape.{Packable}
use Rattle.names.specs.Unpacked.{not_space, columns_of, unpacked}
use Rattle.names.proofs.ColumnLaws.{column_packed}
use Rattle.names.proofs.NameLaws.{name_packable}

-- a packed name has at most eight bytes, whatever number it is
pub unpacked-length : (n : ℕ) → length (unpacked n) ≤ 8
unfolding unpacked
unpacked-length n = run_length not_space (columns_of n)

-- the first k columns of a word
columns : ℕ → List ℕ → List ℕ
columns zero w = []
columns (suc k) [] = 32 ∷ columns k []
columns (suc k) (b ∷ w) = b ∷ columns k w

-- the run up to a space is the word
run_columns : (k : ℕ) (w : List ℕ) → length w ≤ k → ((i : ℕ) → i < length w → get_or w i 32 ≡ 32 → ⊥) → run not_space (columns k w) ≡ w
unfolding columns run not_space
run_columns zero [] l h = refl
run_columns zero (b ∷ w) l h = absurd (omega arith)
run_columns (suc k) [] l h = refl
run_columns (suc k) (b ∷ w) l h =
    ap (λ (q : Bool). cond (not q) (b ∷ run not_space (columns k w)) []) (ne_eqb b 32 (h 0 (omega arith)))
    ∙ ap (λ (v : List ℕ). b ∷ v) (run_columns k w (omega arith) (λ i m. h (suc i) (omega arith)))

eight_columns : (w : List ℕ) → column_of w 0 ∷ column_of w 1 ∷ column_of w 2 ∷ column_of w 3 ∷ column_of w 4 ∷ column_of w 5 ∷ column_of w 6 ∷ column_of w 7 ∷ [] ≡ columns 8 w
unfolding column_of columns
eight_columns [] = refl
eight_columns (a ∷ []) = refl
eight_columns (a ∷ b ∷ []) = refl
eight_columns (a ∷ b ∷ c ∷ []) = refl
eight_columns (a ∷ b ∷ c ∷ d ∷ []) = refl
eight_columns (a ∷ b ∷ c ∷ d ∷ e ∷ []) = refl
eight_columns (a ∷ b ∷ c ∷ d ∷ e ∷ f ∷ []) = refl
eight_columns (a ∷ b ∷ c ∷ d ∷ e ∷ f ∷ g ∷ []) = refl
eight_columns (a ∷ b ∷ c ∷ d ∷ e ∷ f ∷ g ∷ h ∷ w) = refl

module _ (w : List ℕ) (h : Packable w) where
  columns_packed : columns_of (packed w) ≡ columns 8 w
  columns_packed =
      let p = column_packed w h.bytes in
      let p₀ = p 0 (omega arith) in
      let p₁ = p 1 (omega arith) in
      let p₂ = p 2 (omega arith) in
      let p₃ = p 3 (omega arith) in
      let p₄ = p 4 (omega arith) in
      let p₅ = p 5 (omega arith) in
      let p₆ = p 6 (omega arith) in
      let p₇ = p 7 (omega arith) in
      (λ i. p₀ i ∷ p₁ i ∷ p₂ i ∷ p₃ i ∷ p₄ i ∷ p₅ i ∷ p₆ i ∷ p₇ i ∷ []) ∙ eight_columns w

  -- what is read from a packed name is the name
  pub unpacked-packed : unpacked (packed w) ≡ w
  unfolding unpacked column_of
  unpacked-packed = ap (run not_space) columns_packed ∙ run_columns 8 w h.short h.spaceless

-- "A name is a word of 1 to 8 bytes": its bytes are read back whole
pub unpacked-name : (w : List ℕ) → kind_of w ≡ name_k → Wordy w → unpacked (packed w) ≡ w
unpacked-name w k h = unpacked-packed w (name_packable w k h)

-- `-` stands where a reply has no name: its number, and the bytes read back
pub dash-packed : packed (45 ∷ []) ≡ 3251634253311516704
unfolding packed column_of
dash-packed = refl

pub dash-unpacked : unpacked 3251634253311516704 ≡ 45 ∷ []
unfolding unpacked not_space run column_at
dash-unpacked = refl
