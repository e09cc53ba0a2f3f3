-- What a batch promises, of any monitor, through what a single call promises.
-- Assumes nothing.
use Rattle.std.specs.Prelude.{◌≡◌, true, false, List, ℕ}
use Rattle.follow.specs.declared.state.State.{State}
use Rattle.book.specs.Decide.{Answer}
use Rattle.book.specs.Batches.{batch_fits, batch_calls, buffers}
use Rattle.monitor.specs.Sessions.{Session}
use Rattle.monitor.specs.Handled.{Handled}

-- "Replies and monitor must be those of n single calls in the same order.": single calls on the batch's records, each lent its own 50 bytes as they were lent,
-- give these buffers, one after the other, and leave this monitor; the number is 0, whatever their answers
pub record BatchTaken (f : State) (s lent left : List ℕ) (r : Handled) : Type 0 where
  pub number : r.number ≡ 0
  pub answers : List Answer
  pub session : Session f (batch_calls s lent) answers r.monitor
  pub replies : left ≡ buffers answers

-- "Turned away: 11, .. both buffers untouched."; and so is the monitor
pub record BatchRefused (f : State) (lent left : List ℕ) (r : Handled) : Type 0 where
  pub is : r ≡ record { number = 11; monitor = f }
  pub buffer : left ≡ lent

-- what a batch promises: "looked at first", whether the buffers are those of a batch
pub record BatchHandles (f : State) (s lent left : List ℕ) (r : Handled) : Type 0 where
  pub taken : batch_fits s lent ≡ true → BatchTaken f s lent left r
  pub refused : batch_fits s lent ≡ false → BatchRefused f lent left r

-- what `handle_batch` promises of the records s and the reply buffer b on the monitor m: the answer a, and the monitor handed back
abbrev pub BatchedAs : State → List ℕ → List ℕ → Answer → State → Type 0
BatchedAs m s b a m' = BatchHandles m s b a.buffer (record { number = a.number; monitor = m' })
