-- What is seen of a record, in columns, and as the code hands it back.
-- Assumes nothing.
use Rattle.std.specs.Prelude.{ℕ, Result, Ok, Err}
use Rattle.common.specs.Refusals.{answer_number}
use Rattle.common.specs.declared.refusals.Refusal.{Refusal}
use Rattle.names.specs.Name.{packed}
use Rattle.columns.specs.Texts.{dash}
use Rattle.columns.specs.declared.kinds.ReplyKind.{ReplyKind}
use Rattle.columns.specs.declared.kinds.ReplyKind.TheVariants as kind
use Rattle.follow.specs.declared.state.State.{State}
use Rattle.viewer.specs.declared.view.Taken.{Taken}
use Rattle.viewer.specs.declared.view.Taken.TheVariants.{Declared, Committed}
use Rattle.viewer.specs.declared.view.Viewed as code
use Rattle.viewer.specs.declared.shown.Head.{Head}

-- document 01's kind of reply and number, the packed name declared or that of a dash; the set of the rules whose pasts match after the record, and the state
-- after it
pub record Viewed : Type 0 where
  pub kind : ReplyKind
  pub number : ℕ
  pub name : ℕ
  pub matching : ℕ
  pub state : State

-- "`D` declared, `C` committed, .. `R` refused"
abbrev pub kind_of : Result Taken Refusal → ReplyKind
kind_of (Ok (Declared name)) = kind.Declared
kind_of (Ok Committed) = kind.Committed
kind_of (Err r) = kind.Refused

-- "the name declared .. else `-`"
abbrev pub packed_name_of : Result Taken Refusal → ℕ
packed_name_of (Ok (Declared name)) = name
packed_name_of (Ok Committed) = packed dash
packed_name_of (Err r) = packed dash

-- what stands before the bar of a line of what became of a record
abbrev pub head_of : Result Taken Refusal → Head
head_of o = record { kind = kind_of o; number = answer_number o; name = packed_name_of o }

-- what is seen of any kind, number and name, where the rules of that set match and the state is f
abbrev pub seen_by : Head → ℕ → State → Viewed
seen_by h bits f = record { kind = h.kind; number = h.number; name = h.name; matching = bits; state = f }

-- what is seen where this became of a record, the rules of that set match after it, and it left the state f
abbrev pub seen : Result Taken Refusal → ℕ → State → Viewed
seen o bits f = record { kind = kind_of o; number = answer_number o; name = packed_name_of o; matching = bits; state = f }

-- the same of what is handed back
abbrev pub seen_of : code.Viewed → State → Viewed
seen_of v f = seen v.outcome v.matching f
