-- Positions (document 01: marks): which are held after a list of events, and what one event does to any set of them.
-- Assumes nothing.
use Rattle.std.specs.Prelude.{◌≡◌, Bool, true, List, [], ◌∷◌, ◌++◌, ◌⊎◌, ◌↔◌, ℕ, eqb}
use Rattle.positions.specs.Past.{Past}
use Rattle.positions.specs.Numbers.{Allows, Nullable, Begins, Ends, Before, met_at, Each}

-- A set of positions. Position k from 1 on is at the pattern numbered k, and position 0 is at the start.
abbrev pub Positions : Type 0
Positions = ℕ → Bool

-- the positions before the first event: the start alone
abbrev pub at_start : Positions
at_start k = eqb k 0

-- Document 01: the positions after the events l since the declaration.
module _ {P A : Type 0} (meets : A → P → Bool) where
  -- the events l "can be read, each meeting its pattern, as" the numbered patterns w
  abbrev pub Reads : Past P → List A → List ℕ → Type 0
  Reads φ l w = Each (λ a k. met_at (meets a) φ 0 k) l w

  -- "Mark 0 is set while no act has been committed since the declaration. Mark k is set when the acts since then can be read, each meeting its
  -- pattern, as the start of a list of numbered patterns that the past allows, ending with pattern k."
  abbrev pub Held : Past P → List A → ℕ → Type 0
  Held φ l k = ((k ≡ 0) × (l ≡ [])) ⊎ ((w : List ℕ) × (v : List ℕ) × Allows φ 0 ((w ++ k ∷ []) ++ v) × Reads φ l (w ++ k ∷ []))

  -- "A rule's marks are exactly this set": m are the positions after the events l
  abbrev pub After : Past P → List A → Positions → Type 0
  After φ l m = (k : ℕ) → (m k ≡ true) ↔ Held φ l k

-- Document 02, C-12: one event, and the match, for any set of positions, also one that no events lead to.
module _ {P : Type 0} (φ : Past P) where
  -- j "may stand just before k in a list of patterns the past allows (mark 0 before the first)"
  abbrev pub JustBefore : ℕ → ℕ → Type 0
  JustBefore j k = Before φ 0 j k ⊎ ((j ≡ 0) × Begins φ 0 k)

  -- k "may end such a list (mark 0 when the empty list is allowed)"
  abbrev pub MayEnd : ℕ → Type 0
  MayEnd k = Ends φ 0 k ⊎ ((k ≡ 0) × Nullable φ 0)

  -- "after a committed act the marks set are exactly those k where it meets pattern k and some mark set until then may stand just before k".
  -- The test t says which patterns the event meets.
  abbrev pub Follows : Positions → (P → Bool) → ℕ → Type 0
  Follows m t k = (met_at t φ 0 k ≡ true) × ((j : ℕ) × (m j ≡ true) × JustBefore j k)

  -- "the past matches when some set mark may end such a list"
  abbrev pub Matched : Positions → Type 0
  Matched m = (k : ℕ) × (m k ≡ true) × MayEnd k
