-- Laws of the longest run and of what is left after it. Each holds for any test of a byte.
-- Assumes nothing.
use Rattle.std.proofs.Common.{◌≡◌, refl, ap, sym, ◌∙◌, Bool, true, false, cond, List, [], ◌∷◌, ℕ, zero, suc, ◌+◌, ◌-◌, ◌<◌, ◌≤◌, zero-le, suc-le-suc, le_of_suc-le-suc, not-suc-le-zero, arith, length, take, drop, get_or, length-drop, take_all}
use Rattle.std.specs.List.{prefix_len}
use Rattle.std.proofs.lemmas.List.Folds.{length-prefix_len}
use Rattle.lexer.specs.Run.{run, after}

-- a list of no length is empty
pub no_length : (l : List ℕ) → length l ≡ 0 → l ≡ []
no_length [] e = refl
no_length (b ∷ l) e = absurd (omega arith)

module _ (p : ℕ → Bool) where
  -- a byte that passes makes the run one longer
  pub run_more : (s : List ℕ) (i : ℕ) → i < length s → p (get_or s i 0) ≡ true → length (run p (drop i s)) ≡ suc (length (run p (drop (suc i) s)))
  unfolding run
  run_more [] i h e = absurd (not-suc-le-zero h)
  run_more (b ∷ s) zero h e = ap (λ (q : Bool). length (cond q (b ∷ run p s) [])) e
  run_more (b ∷ s) (suc i) h e = run_more s i (le_of_suc-le-suc h) e

  pub run_length : (s : List ℕ) → length (run p s) ≤ length s
  unfolding run
  run_length [] = zero-le
  run_length (b ∷ s) = go (run_length s) (p b)
    where
      go : length (run p s) ≤ length s → (q : Bool) → length (cond q (b ∷ run p s) []) ≤ suc (length s)
      go ih true = suc-le-suc ih
      go ih false = zero-le

  pub run_take : (s : List ℕ) → take (length (run p s)) s ≡ run p s
  unfolding run
  run_take [] = refl
  run_take (b ∷ s) = go (run_take s) (p b)
    where
      go : take (length (run p s)) s ≡ run p s → (q : Bool) → take (length (cond q (b ∷ run p s) [])) (b ∷ s) ≡ cond q (b ∷ run p s) []
      go ih true = ap (λ (t : List ℕ). b ∷ t) ih
      go ih false = refl

  pub run_drop : (s : List ℕ) → drop (length (run p s)) s ≡ after p s
  unfolding run after
  run_drop [] = refl
  run_drop (b ∷ s) = go (run_drop s) (p b)
    where
      go : drop (length (run p s)) s ≡ after p s → (q : Bool) → drop (length (cond q (b ∷ run p s) [])) (b ∷ s) ≡ cond q (after p s) (b ∷ s)
      go ih true = ih
      go ih false = refl

  pub after-size : (s : List ℕ) → length (after p s) ≡ length s - length (run p s)
  after-size s = ap length (sym (run_drop s)) ∙ length-drop _ s

  pub after_part : (s : List ℕ) → take (length s - length (run p s)) (drop (length (run p s)) s) ≡ after p s
  after_part s = take_all (length s - length (run p s)) (drop (length (run p s)) s) (simp length-drop (omega arith)) ∙ run_drop s

  -- as long as the longest front that passes
  pub run_prefix : (s : List ℕ) → length (run p s) ≡ prefix_len p s
  unfolding run
  run_prefix [] = refl
  run_prefix (b ∷ s) = go (p b) (run_prefix s)
    where
      go : (q : Bool) → length (run p s) ≡ prefix_len p s → length (cond q (b ∷ run p s) []) ≡ cond q (1 + prefix_len p s) 0
      go true e = omega arith
      go false e = refl

  -- counted by an iterator: as long as the run
  pub counted : (s : List ℕ) (n : ℕ) → n ≡ length (take (prefix_len p s) s) → n ≡ length (run p s)
  counted s n e = e ∙ length-prefix_len p s ∙ sym (run_prefix s)
