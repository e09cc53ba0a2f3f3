-- Each level begins with a byte that starts a base.
-- Assumes nothing.
use Rattle.std.proofs.Common.{◌≡◌, refl, ap, ◌∙◌, Bool, true, false, ltb, ltb-true, ltb-false, List, ◌∷◌, ◌++◌, ℕ, ◌≤◌, ◌<◌, length, get_or, drop, replicate}
use Rattle.std.proofs.Math.ListN.{get_or-eq_default}
use Rattle.common.proofs.Bools.{true_not_false}
use Rattle.grammar.specs.Trees.{Pattern, plain, bracketed, any_event, items, Past, only, either, Sequence, single, beside, Factor, starred, Base, pattern, nothing, group}
use Rattle.code.specs.Trees.{code_simple, code_pattern, code_past, code_sequence, code_factor, code_base}
use Rattle.patterns.proofs.Here.{none, here}
use Rattle.follow.specs.Walked.{starts}

pub record Head (l : List ℕ) : Type 0 where
  pub byte : ℕ
  pub tail : List ℕ
  pub is : l ≡ byte ∷ tail
  pub start : starts byte ≡ true

pub longer : (xs ys : List ℕ) → Head xs → Head (xs ++ ys)
longer xs ys h = record { byte = h.byte; tail = h.tail ++ ys; is = ap (λ (l : List ℕ). l ++ ys) h.is; start = h.start }

pattern_head : (p : Pattern ℕ) → Head (code_pattern p)
unfolding code_pattern code_simple
pattern_head (plain any_event) = record { byte = _; tail = _; is = refl; start = refl }
pattern_head (plain (items xs)) = record { byte = _; tail = _; is = refl; start = refl }
pattern_head (bracketed c) = record { byte = _; tail = _; is = refl; start = refl }

pub base_head : (b : Base ℕ) → Head (code_base b)
unfolding code_base
base_head (pattern p) = pattern_head p
base_head nothing = record { byte = _; tail = _; is = refl; start = refl }
base_head (group p) = record { byte = _; tail = _; is = refl; start = refl }

pub factor_head : (f : Factor ℕ) → Head (code_factor f)
unfolding code_factor
factor_head (starred b n) = longer (code_base b) (replicate n 42) (base_head b)

pub sequence_head : (s : Sequence ℕ) → Head (code_sequence s)
unfolding code_sequence
sequence_head (single f) = factor_head f
sequence_head (beside f s) = longer (code_factor f) (code_sequence s) (factor_head f)

pub past_head : (p : Past ℕ) → Head (code_past p)
unfolding code_past
past_head (only s) = sequence_head s
past_head (either s p) = longer (code_sequence s) (43 ∷ code_past p) (sequence_head s)

-- nothing of the kind is spelled past the end, and where one is spelled the byte starts it
pub nowhere : (code : List ℕ) (at : ℕ) (l : List ℕ) → Head l → length code ≤ at → drop at code ≡ l → ⊥
nowhere code at l h n e = none code at h.byte h.tail n (e ∙ h.is)

pub starts_here : (code : List ℕ) (at : ℕ) (l : List ℕ) → Head l → drop at code ≡ l → starts (get_or code at 0) ≡ true
starts_here code at l h e = ap starts (here code at h.byte h.tail (e ∙ h.is)).byte ∙ h.start

-- where a byte starts a base, it stands in the code: past the end there is none
pub starts_within : (code : List ℕ) (at : ℕ) → starts (get_or code at 0) ≡ true → at < length code
starts_within code at h = go (ltb at (length code)) refl
  where
    go : (t : Bool) → ltb at (length code) ≡ t → at < length code
    go true e = ltb-true at (length code) e
    go false e = absurd (true_not_false _ h (ap starts (get_or-eq_default code 0 (ltb-false at (length code) e))))
