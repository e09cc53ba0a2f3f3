-- What the readers of an image promise.
-- Assumes nothing.
use Rattle.std.specs.Prelude.{Ok, ◌≡◌, false, List, ℕ, ◌/◌, ◌≤◌, ◌<◌, length, get_or, Some, None, Result, IsErr, IsOk, IsOkAnd, IsNone, IsSome}
use Rattle.std.specs.Prelude.{Option as Given}
use Rattle.std.proofs.Math.Option.{Option, none, some}
use denote.Ref.{Bor}
use Rattle.common.specs.Limits.{record_size}
use Rattle.common.specs.declared.refusals.Refusal.{Refusal}
use Rattle.names.specs.Unpacked.{unpacked}
use Rattle.grammar.specs.Readings.{EndOf}
use Rattle.grammar.specs.Lines.{read_line}
use Rattle.frame.specs.Records.{records_of}
use Rattle.code.specs.Count.{patterns_from}
use Rattle.follow.specs.Rows.{row_at, code_of}
use Rattle.follow.specs.declared.state.State.{State}
use Rattle.intake.specs.Machine.{PositionMachine, fresh_machine}
use Rattle.intake.specs.Represents.{Represents}
use Rattle.intake.specs.Declaring.{line_asked}
use Rattle.book.specs.Restoring.{take_asked, take_line, take_lines, line_records, other_records, record_marks, marks_read, restored}
use Rattle.monitor.specs.Handled.{Handled}

-- MARKS

-- the marks that a reader gives, or none
abbrev pub given : Given ℕ → Option ℕ
given None = none
given (Some m) = some m

-- what `M` record i says of rule i, by its packed name and its code
unfoldable pub mark_at : List ℕ → List ℕ → List ℕ → ℕ → Option ℕ
mark_at rule_names rows records i = record_marks (unpacked (get_or rule_names i 0)) (patterns_from false (code_of (row_at rows i))) (row_at records i)

-- the marks of the first n rules are read into an array, each by its record; or, where the array has room for them, one of the records gives none
pub record MarksTaken (mark : ℕ → Option ℕ) (n : ℕ) (before after : List ℕ) (r : Given Unit) : Type 0 where
  pub long : length after ≡ length before
  pub taken : IsSome r → (i : ℕ) → i < n → mark i ≡ some (get_or after i 0)
  pub turned_away : n ≤ length before → IsNone r → (i : ℕ) × (i < n) × (mark i ≡ none)

-- LINES

-- a line of an image: it is taken, and the state left represents the machine with it; or it is not
abbrev pub TakenAs : Option PositionMachine → Result Unit Refusal → State → Type 0
TakenAs none r left = IsErr r
TakenAs (some u) r left = IsOk r × Represents left u

-- the text of a line, in its place
pub record LineInOrder (f : State) (s : List ℕ) (r : Result Unit Refusal) (left : State) : Type 0 where
  pub right : (t : PositionMachine) → Represents f t → length s ≤ 126 → TakenAs (take_asked t (line_asked t (read_line s))) r left

-- a record that is to be a line
pub record LineTaken (f : State) (s : List ℕ) (r : Result Unit Refusal) (left : State) : Type 0 where
  pub right : (t : PositionMachine) → Represents f t → TakenAs (take_line t s) r left

-- the records of some bytes
abbrev pub records_in : List ℕ → List (List ℕ)
records_in s = records_of (length s / record_size) s

-- the lines in front of the records, taken by a fresh monitor: what they leave, and the bytes of the other records; or one was refused
abbrev pub LinesAs : List ℕ → Option PositionMachine → Result (State × Bor (List ℕ)) Refusal → Type 0
LinesAs s none r = IsErr r
LinesAs s (some t) r = IsOkAnd r (λ p. Represents p.0 t × (records_in p.1.now ≡ other_records (records_in s)))

-- the records of any bytes; bytes after the last whole record are not read
pub record LinesTaken (s : List ℕ) (r : Result (State × Bor (List ℕ)) Refusal) : Type 0 where
  pub right : LinesAs s (take_lines fresh_machine (line_records (records_in s))) r
  pub end : (p : State × Bor (List ℕ)) → r ≡ Ok p → EndOf s p.1.now

-- THE IMAGE

-- an image is accepted, and the state represents the machine that it says; or it is turned away
abbrev pub ImageAs : Option PositionMachine → Result State Refusal → Type 0
ImageAs none r = IsErr r
ImageAs (some t) r = IsOkAnd r (λ f. Represents f t)

-- the marks of a state's rules, by the records after the lines
pub record MarksGiven (f : State) (s : List ℕ) (r : Result Unit Refusal) (left : State) : Type 0 where
  pub right : (t : PositionMachine) → Represents f t → TakenAs (marks_read t (records_in s)) r left

-- any bytes
pub record ImageRead (s : List ℕ) (r : Result State Refusal) : Type 0 where
  pub right : ImageAs (restored s) r

-- "Returning to an image replaces the monitor."; "Turned away: 12, .. monitor unchanged": of any monitor
abbrev pub RestoredAs : State → Option PositionMachine → Handled → Type 0
RestoredAs f none r = r ≡ record { number = 12; monitor = f }
RestoredAs f (some t) r = (r.number ≡ 0) × Represents r.monitor t

-- what restoring promises, of any monitor and any bytes
pub record Restores (f : State) (s : List ℕ) (r : Handled) : Type 0 where
  pub right : RestoredAs f (restored s) r

-- what `restore` promises of an image on the monitor m: the number, and the monitor handed back
abbrev pub RestoredBy : State → List ℕ → ℕ → State → Type 0
RestoredBy m image n m' = Restores m image (record { number = n; monitor = m' })
