-- What the walk over a past's code promises, by trees: where the code from `at` on spells a past and what follows does not go on with it, the walk
-- finds the summary of its meaning, and ends where its spelling ends. For any bytes it ends, and not before its start.
-- Assumes nothing.
use Rattle.std.specs.Prelude.{◌≡◌, Bool, false, ◌&&◌, ltb, eqb, List, [], ◌∷◌, ◌++◌, ℕ, zero, suc, ◌+◌, ◌≤◌, ◌<◌, length, get_or, drop, replicate}
use Rattle.lexer.specs.Class.{among}
use Rattle.grammar.specs.Trees.{Pattern}
use Rattle.code.specs.Trees.{code_past, code_sequence, code_factor, code_base}
use Rattle.patterns.specs.Meets.{meets}
use Rattle.patterns.specs.Judged.{order_by}
use Rattle.positions.specs.Past.{Past}
use Rattle.positions.specs.Summaries.{summary, seq_summary, star_summary}
use Rattle.positions.specs.declared.summaries.Summary.{Summary}
use Rattle.follow.specs.Meaning.{past_meaning, sequence_meaning, factor_meaning, base_meaning}
use Rattle.follow.specs.declared.walk.Walk.{Walk}

-- that byte stands at a place of the code
unfoldable pub stands_at : List ℕ → ℕ → ℕ → Bool
stands_at code at b = ltb at (length code) && eqb (get_or code at 0) b

-- a byte that begins a base: any < [ (
abbrev pub starts : ℕ → Bool
starts b = among b (97 ∷ 60 ∷ 91 ∷ 40 ∷ [])

-- what may follow each level
abbrev pub AfterBase : List ℕ → Type 0
AfterBase rest = Unit {0}

-- no more stars
abbrev pub AfterFactor : List ℕ → Type 0
AfterFactor rest = get_or rest 0 0 ≡ 42 → ⊥

-- nor another factor
abbrev pub AfterSequence : List ℕ → Type 0
AfterSequence rest = AfterFactor rest × (starts (get_or rest 0 0) ≡ false)

-- nor another sequence
abbrev pub AfterPast : List ℕ → Type 0
AfterPast rest = AfterSequence rest × (get_or rest 0 0 ≡ 43 → ⊥)

-- m: the positions held; above: of each role the set of those above it; k: the number of the first pattern
pub record WalkRead {T : Type 0} (code' : T → List ℕ) (meaning : T → Past (Pattern ℕ)) (Stop : List ℕ → Type 0) (m : ℕ) (above event code : List ℕ) (at k : ℕ) (r : Walk) : Type 0 where
  pub onwards : at ≤ r.end
  pub moves : at < length code → at < r.end
  pub right : (t : T) (rest : List ℕ) → Stop rest → drop at code ≡ code' t ++ rest
      → (r.summary ≡ summary m (meets (order_by above) event) (meaning t) k) × (r.end ≡ at + length (code' t))

-- the promise at each level
abbrev pub BaseRead : ℕ → List ℕ → List ℕ → List ℕ → ℕ → ℕ → Walk → Type 0
BaseRead = WalkRead code_base base_meaning AfterBase

abbrev pub FactorRead : ℕ → List ℕ → List ℕ → List ℕ → ℕ → ℕ → Walk → Type 0
FactorRead = WalkRead code_factor factor_meaning AfterFactor

abbrev pub SequenceRead : ℕ → List ℕ → List ℕ → List ℕ → ℕ → ℕ → Walk → Type 0
SequenceRead = WalkRead code_sequence sequence_meaning AfterSequence

abbrev pub PastRead : ℕ → List ℕ → List ℕ → List ℕ → ℕ → ℕ → Walk → Type 0
PastRead = WalkRead code_past past_meaning AfterPast

-- The promise where the walk w comes first: where the code from its end on spells one of these, the walk finds the summary of it, put in order after what w found.
pub record WalkReadOn {T : Type 0} (code' : T → List ℕ) (meaning : T → Past (Pattern ℕ)) (Stop : List ℕ → Type 0) (m : ℕ) (above event code : List ℕ) (w r : Walk) : Type 0 where
  pub onwards : w.end ≤ r.end
  pub moves : w.end < length code → w.end < r.end
  pub right : (t : T) (rest : List ℕ) → Stop rest → drop w.end code ≡ code' t ++ rest
      → (r.summary ≡ seq_summary w.summary (summary m (meets (order_by above) event) (meaning t) w.summary.next)) × (r.end ≡ w.end + length (code' t))

-- one factor more; factors, at least one
abbrev pub FurtherRead : ℕ → List ℕ → List ℕ → List ℕ → Walk → Walk → Type 0
FurtherRead = WalkReadOn code_factor factor_meaning AfterFactor

abbrev pub SequenceReadOn : ℕ → List ℕ → List ℕ → List ℕ → Walk → Walk → Type 0
SequenceReadOn = WalkReadOn code_sequence sequence_meaning AfterSequence

-- n stars
abbrev pub again : ℕ → Summary → Summary
again zero s = s
again (suc n) s = again n (star_summary s)

-- where the stars from a place on end
pub record StarsEnd (code : List ℕ) (at r : ℕ) : Type 0 where
  pub onwards : at ≤ r
  pub right : (n : ℕ) (rest : List ℕ) → AfterFactor rest → drop at code ≡ replicate n 42 ++ rest → r ≡ at + n

-- the stars after a base
pub record StarsRead (code : List ℕ) (w r : Walk) : Type 0 where
  pub onwards : w.end ≤ r.end
  pub right : (n : ℕ) (rest : List ℕ) → AfterFactor rest → drop w.end code ≡ replicate n 42 ++ rest
      → (r.summary ≡ again n w.summary) × (r.end ≡ w.end + n)
