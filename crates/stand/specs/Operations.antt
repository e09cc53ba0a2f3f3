-- A session: operations on the monitor, known by what its functions promise and nothing else. Each kind of operation has its case; a further kind adds one.
-- Assumes nothing.
use Rattle.std.specs.Prelude.{List, ℕ}
use Rattle.follow.specs.declared.state.State.{State}
use Rattle.book.specs.Decide.{Call, Answer}
use Rattle.book.specs.Session.{Run}
use Rattle.book.specs.Operations.{Operation, call, batch, keep, restore, Result, answered, kept, replaced}
use Rattle.monitor.specs.Sessions.{Begun, HandledAs}
use Rattle.batch.specs.Handled.{BatchedAs}
use Rattle.snapshot.specs.Written.{KeptAs}
use Rattle.snapshot.specs.Reading.{RestoredBy}

-- what the function for an operation promises, on the monitor m: the result, and the monitor handed back
pub data OperatedAs : State → Operation → Result → State → Type 0 where
  by_call : {m m' : State} {c : Call} {a : Answer} → HandledAs m c a m' → OperatedAs m (call c) (answered a) m'  -- `handle`
  by_batch : {m m' : State} {s b : List ℕ} {a : Answer} → BatchedAs m s b a m' → OperatedAs m (batch s b) (answered a) m'  -- `handle_batch`
  by_keep : {m m' : State} {lent b : List ℕ} {n k : ℕ} → KeptAs m lent n k b m' → OperatedAs m (keep lent) (kept n k b) m'  -- `keep`
  by_restore : {m m' : State} {image : List ℕ} {n : ℕ} → RestoredBy m image n m' → OperatedAs m (restore image) (replaced n) m'  -- `restore`

-- the operations os in turn from the monitor m, each on the monitor that the one before left: their results, and the monitor left at the end
abbrev pub Operated : State → List Operation → List Result → State → Type 0
Operated m os rs m' = Run OperatedAs m os rs m'

-- the operations os, in turn on a fresh monitor, left the monitor m
pub record LeftBy (os : List Operation) (m : State) : Type 0 where
  pub first : State
  pub results : List Result
  pub begun : Begun first
  pub session : Operated first os results m

-- the operations were done in turn on a fresh monitor, by what its functions promise: a run of them exists, and these are its results
pub record Ran (os : List Operation) (rs : List Result) : Type 0 where
  pub first : State
  pub last : State
  pub begun : Begun first
  pub session : Operated first os rs last
