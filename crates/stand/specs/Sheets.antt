-- The judge over a sheet, as a host hands it over.
-- Assumes nothing.
use Rattle.std.specs.Prelude.{cond, List, map, ℕ, ◌*◌, ◌/◌, ◌%◌, eqb, length, replicate}
use Rattle.common.specs.Limits.{reply_size, record_size}
use Rattle.frame.specs.Records.{records_of}
use Rattle.follow.specs.declared.state.State.{State}
use Rattle.book.specs.Decide.{Call}
use Rattle.book.specs.Book.{Book, fresh_book, book_step}
use Rattle.book.specs.MachineSteps.{PositionMachine, machine_step, machine_of}
use Rattle.book.specs.Session.{left}
use Rattle.intake.specs.Represents.{Represents}
use Rattle.judge.specs.Judge.{number_of, judge_of}
use Rattle.judge.specs.Verdict.{Verdict, Yes, No, NoRule, NotWhole, Malformed, NotInLanguage, Unknown}
use Rattle.stand.specs.Rounds.{shift}

-- a record handed over with a buffer of 50 bytes, whose reply is dropped
abbrev pub call_of : List ℕ → Call
call_of s = record { bytes = s; buffer = replicate reply_size 0 }

-- the book that the whole records of a sheet leave
abbrev pub book_of : List ℕ → Book
book_of s = left book_step fresh_book (map call_of (records_of (length s / record_size) s))

-- document 01's number of the refusal in the upper half, and 1 for yes
abbrev pub answer_number : Verdict → ℕ
answer_number Yes = 1
answer_number No = 0
answer_number NoRule = number_of NoRule * shift
answer_number NotWhole = number_of NotWhole * shift
answer_number Malformed = number_of Malformed * shift
answer_number NotInLanguage = number_of NotInLanguage * shift
answer_number Unknown = number_of Unknown * shift

-- the judge's answer of the rules that the sheet leaves; 11 where the sheet is not whole records
unfoldable pub sheet_judged : List ℕ → ℕ → List ℕ → ℕ
sheet_judged sheet i s = cond (eqb (length sheet % record_size) 0) (answer_number (judge_of (machine_of (book_of sheet)) i s)) (11 * shift)

-- the monitor after a record
pub record RecordLeaves (f : State) (s : List ℕ) (r : State) : Type 0 where
  pub right : (t : PositionMachine) → Represents f t → Represents r (machine_step t (call_of s)).0

-- the monitor that a sheet leaves
pub record SheetLeaves (sheet : List ℕ) (r : State) : Type 0 where
  pub right : Represents r (machine_of (book_of sheet))
