-- The rule language as trees: a type for each form of document 01, "The rule language", over N, which stands for a name.
-- In a text as read N is the name's bytes; in a rule as kept it is a role's id.
-- Assumes nothing.
use Rattle.std.specs.Prelude.{ℕ, List}

-- "An item is a name (that role) or `+` and a name (that role or one below it)."
pub data Item (N : Type 0) : Type 0 where
  exact : N → Item N
  below : N → Item N

-- what follows `<`: items, "an optional `*`, `>`"
pub data Items (N : Type 0) : Type 0 where
  close : Items N
  star_close : Items N
  item : Item N → Items N → Items N

-- "Simple pattern: any, or `<`, zero to four items, an optional `*`, `>`."
pub data Simple (N : Type 0) : Type 0 where
  any_event : Simple N
  items : Items N → Simple N

mutual
  -- "Condition: one or more terms joined by the word or."
  pub data Condition (N : Type 0) : Type 0 where
    term : Term N → Condition N
    or : Term N → Condition N → Condition N

  -- "A term is not with a term after it, a simple pattern, or a condition in round brackets."
  pub data Term (N : Type 0) : Type 0 where
    negate : Term N → Term N
    simple : Simple N → Term N
    inside : Condition N → Term N

-- "Pattern: a simple pattern, or a condition in square brackets."
pub data Pattern (N : Type 0) : Type 0 where
  plain : Simple N → Pattern N
  bracketed : Condition N → Pattern N

mutual
  -- "Past: one or more sequences joined by `+` (either)."
  pub data Past (N : Type 0) : Type 0 where
    only : Sequence N → Past N
    either : Sequence N → Past N → Past N

  -- "A sequence is one or more factors side by side."
  pub data Sequence (N : Type 0) : Type 0 where
    single : Factor N → Sequence N
    beside : Factor N → Sequence N → Sequence N

  -- "A factor is a base followed by any number of `*` (zero or more times)."
  pub data Factor (N : Type 0) : Type 0 where
    starred : Base N → ℕ → Factor N

  -- "A base is a pattern, or `()` (the empty list), or a past in round brackets"
  pub data Base (N : Type 0) : Type 0 where
    pattern : Pattern N → Base N
    nothing : Base N
    group : Past N → Base N

-- "A slot is a name or `#` and one of 1 2 3 4, the place in the act."
pub data Slot (N : Type 0) : Type 0 where
  named : N → Slot N
  place : ℕ → Slot N

-- "A template is `<`, zero to four slots, `>`."
abbrev pub Template : Type 0 → Type 0
Template N = List (Slot N)

-- "Response: pass, hold, or send or anew with a template."
pub data Response (N : Type 0) : Type 0 where
  pass : Response N
  hold : Response N
  send : Template N → Response N
  anew : Template N → Response N

-- what a record's text can be
pub data Line (N : Type 0) : Type 0 where
  role : N → N → Line N  -- "Role line: role, a name, under, a name (its parent)."
  rule : N → Past N → Pattern N → Response N → Line N  -- "Rule line: rule, a name, `:`, a past, `;`, a pattern (the trigger), `;`, a response."
  event : List N → Line N  -- "Act text: zero to four names."
