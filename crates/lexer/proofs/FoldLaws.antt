-- A fold that asks every byte tells whether all of them pass.
-- Assumes nothing.
use Rattle.std.proofs.Common.{◌≡◌, sym, ◌∙◌, Bool, true, ◌&&◌, List, [], ◌∷◌, ℕ, fold}
use Rattle.std.proofs.Math.Bool.{and_assoc, and-true}
use Rattle.std.specs.List.{list_all}

module _ (p : ℕ → Bool) where
  folded : (q : Bool) (s : List ℕ) → fold (λ a b. a && p b) q s ≡ (q && list_all p s)
  folded q [] = sym (and-true q)
  folded q (b ∷ s) = folded (q && p b) s ∙ and_assoc q (p b) (list_all p s)

  pub folded_all : (s : List ℕ) → fold (λ a b. a && p b) true s ≡ list_all p s
  folded_all s = folded true s
