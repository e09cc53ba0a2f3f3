-- What declaring comes to.
-- Assumes nothing.
use Rattle.std.specs.Prelude.{ℕ, Result, Ok, Err}
use Rattle.common.specs.Refusals.{answer_number}
use Rattle.common.specs.declared.refusals.Refusal.{Refusal}
use Rattle.follow.specs.declared.state.State.{State}

-- document 01's number, 0 when taken; the packed name declared, 0 where none is; and the state after it
pub record Declared : Type 0 where
  pub number : ℕ
  pub name : ℕ
  pub state : State

-- the packed name of an answer, 0 where it is refused
abbrev pub name_declared : Result ℕ Refusal → ℕ
name_declared (Ok name) = name
name_declared (Err r) = 0

-- an answer and the state that it leaves
abbrev pub declared_as : Result ℕ Refusal → State → Declared
declared_as r f = record { number = answer_number r; name = name_declared r; state = f }
