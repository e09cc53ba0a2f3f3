-- What a tree must have besides its shape: names where names stand, at most four items, slots and roles, and places from 1 to 4.
-- Assumes nothing.
use Rattle.std.specs.Prelude.{◌≡◌, ℕ, zero, suc, ◌≤◌, List, [], ◌∷◌}
use Rattle.lexer.specs.Words.{kind_of, name_k}
use Rattle.grammar.specs.AsRead.{Item, exact, below, Items, close, star_close, item, Simple, any_event, items, Condition, term, or, Term, negate, simple, inside, Pattern, plain, bracketed, Past, only, either, Sequence, single, beside, Factor, starred, Base, pattern, nothing, group, Slot, named, place, Template, Response, pass, hold, send, anew, Line, role, rule, event}

-- "A name is a word of 1 to 8 bytes that begins with a letter and isn't reserved."
abbrev pub IsName : List ℕ → Type 0
IsName w = kind_of w ≡ name_k

-- "a name (that role) or `+` and a name"
unfoldable pub ValidItem : Item → Type 0
ValidItem (exact w) = IsName w
ValidItem (below w) = IsName w

-- at most k items
unfoldable pub ValidItems : ℕ → Items → Type 0
ValidItems k close = Unit {0}
ValidItems k star_close = Unit {0}
ValidItems zero (item i is) = ⊥
ValidItems (suc k) (item i is) = ValidItem i × ValidItems k is

-- "zero to four items"
unfoldable pub ValidSimple : Simple → Type 0
ValidSimple any_event = Unit {0}
ValidSimple (items is) = ValidItems 4 is

unfoldable mutual
  -- of each term
  pub ValidCondition : Condition → Type 0
  ValidCondition (term t) = ValidTerm t
  ValidCondition (or t c) = ValidTerm t × ValidCondition c

  pub ValidTerm : Term → Type 0
  ValidTerm (negate t) = ValidTerm t
  ValidTerm (simple p) = ValidSimple p
  ValidTerm (inside c) = ValidCondition c

-- of either form
unfoldable pub ValidPattern : Pattern → Type 0
ValidPattern (plain p) = ValidSimple p
ValidPattern (bracketed c) = ValidCondition c

unfoldable mutual
  -- of each pattern
  pub ValidPast : Past → Type 0
  ValidPast (only q) = ValidSequence q
  ValidPast (either q p) = ValidSequence q × ValidPast p

  pub ValidSequence : Sequence → Type 0
  ValidSequence (single c) = ValidFactor c
  ValidSequence (beside c q) = ValidFactor c × ValidSequence q

  pub ValidFactor : Factor → Type 0
  ValidFactor (starred b n) = ValidBase b

  pub ValidBase : Base → Type 0
  ValidBase (pattern p) = ValidPattern p
  ValidBase nothing = Unit {0}
  ValidBase (group p) = ValidPast p

-- "a name or `#` and one of 1 2 3 4"
unfoldable pub ValidSlot : Slot → Type 0
ValidSlot (named w) = IsName w
ValidSlot (place n) = (1 ≤ n) × (n ≤ 4)

-- at most k slots
unfoldable pub ValidSlots : ℕ → Template → Type 0
ValidSlots k [] = Unit {0}
ValidSlots zero (x ∷ xs) = ⊥
ValidSlots (suc k) (x ∷ xs) = ValidSlot x × ValidSlots k xs

-- "zero to four slots"
unfoldable pub ValidResponse : Response → Type 0
ValidResponse pass = Unit {0}
ValidResponse hold = Unit {0}
ValidResponse (send xs) = ValidSlots 4 xs
ValidResponse (anew xs) = ValidSlots 4 xs

-- at most k names
unfoldable pub ValidNames : ℕ → List (List ℕ) → Type 0
ValidNames k [] = Unit {0}
ValidNames zero (w ∷ ws) = ⊥
ValidNames (suc k) (w ∷ ws) = IsName w × ValidNames k ws

-- "zero to four names"
unfoldable pub ValidLine : Line → Type 0
ValidLine (role w p) = IsName w × IsName p
ValidLine (rule w p t x) = IsName w × (ValidPast p × (ValidPattern t × ValidResponse x))
ValidLine (event ws) = ValidNames 4 ws
