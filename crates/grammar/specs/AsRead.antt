-- The trees as read: a name is its bytes.
-- Assumes nothing.
use Rattle.std.specs.Prelude.{ℕ, List}
use Rattle.grammar.specs.Trees as trees
pub use Rattle.grammar.specs.Trees.{exact, below, close, star_close, item, any_event, items, term, or, negate, simple, inside, plain, bracketed, only, either, single, beside, starred, pattern, nothing, group, named, place, pass, hold, send, anew, role, rule, event}

-- each form of Trees.antt, with the bytes of names
abbrev pub Item : Type 0
Item = trees.Item (List ℕ)

abbrev pub Items : Type 0
Items = trees.Items (List ℕ)

abbrev pub Simple : Type 0
Simple = trees.Simple (List ℕ)

abbrev pub Condition : Type 0
Condition = trees.Condition (List ℕ)

abbrev pub Term : Type 0
Term = trees.Term (List ℕ)

abbrev pub Pattern : Type 0
Pattern = trees.Pattern (List ℕ)

abbrev pub Past : Type 0
Past = trees.Past (List ℕ)

abbrev pub Sequence : Type 0
Sequence = trees.Sequence (List ℕ)

abbrev pub Factor : Type 0
Factor = trees.Factor (List ℕ)

abbrev pub Base : Type 0
Base = trees.Base (List ℕ)

abbrev pub Slot : Type 0
Slot = trees.Slot (List ℕ)

abbrev pub Template : Type 0
Template = trees.Template (List ℕ)

abbrev pub Response : Type 0
Response = trees.Response (List ℕ)

abbrev pub Line : Type 0
Line = trees.Line (List ℕ)
