-- What one operation hands back.
-- Assumes nothing.
use Rattle.std.specs.Prelude.{ℕ, Result, Ok, Err}
use Rattle.common.specs.Refusals.{answer_number}
use Rattle.common.specs.declared.refusals.Refusal.{Refusal}
use Rattle.follow.specs.declared.state.State.{State}
use Rattle.snapshot.specs.Written.{count_written}

-- the number of an operation, how many records it wrote, which keeping alone does, and the monitor after it
pub record Done : Type 0 where
  pub number : ℕ
  pub count : ℕ
  pub monitor : State

-- the same of an operation's answer and of the monitor that is left
abbrev pub done_of : Result ℕ Refusal → State → Done
done_of r m = record { number = answer_number r; count = count_written r; monitor = m }

-- the answer of an operation that writes no record
abbrev pub uncounted : Result (Unit {0}) Refusal → Result ℕ Refusal
uncounted (Ok u) = Ok 0
uncounted (Err e) = Err e
