-- What `meets` promises, by trees: where the code spells a pattern, whether the event meets it. Where the pattern ends is not told.
-- Assumes nothing.
use Rattle.std.specs.Prelude.{◌≡◌, Bool, List, ◌++◌, ℕ, drop}
use Rattle.grammar.specs.Trees.{Items, Pattern}
use Rattle.code.specs.Trees.{code_items, code_pattern}
use Rattle.patterns.specs.Meets.{items_meet, meets}
use Rattle.patterns.specs.Judged.{order_by}

-- items, against some roles
pub record ItemsMet (above roles code : List ℕ) (r : Bool) : Type 0 where
  pub right : (xs : Items ℕ) (rest : List ℕ) → code ≡ code_items xs ++ rest → r ≡ items_meet (order_by above) roles xs

-- a pattern, against the event
pub record PatternMet (above event code : List ℕ) (at : ℕ) (r : Bool) : Type 0 where
  pub right : (p : Pattern ℕ) (rest : List ℕ) → drop at code ≡ code_pattern p ++ rest → r ≡ meets (order_by above) event p
