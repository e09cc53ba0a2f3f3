-- Whether bytes are a record, and of which kind. Document 01, "A record" and rows 2 and 3 of "Refusals, in the order checked".
-- Assumes nothing.
use Rattle.std.specs.Prelude.{cond, List, ℕ, Result, Ok, Err, eqb, length, get_or}
use Rattle.common.specs.Limits.{record_size}
use Rattle.common.specs.declared.refusals.Refusal.{Refusal}
use Rattle.common.specs.declared.refusals.Refusal.TheVariants as row
use Rattle.lexer.specs.Class.{all_classed}
use Rattle.frame.specs.Text.{text_of}
use Rattle.frame.specs.declared.records.RecordKind.{RecordKind}
use Rattle.frame.specs.declared.records.RecordKind.TheVariants as kind

-- a line, an event (document 01: act), or why the bytes are neither: not 128 of them (row 2), or row 3
pub data Frame : Type 0 where
  Line : Frame
  Event : Frame
  WrongLength : Frame
  Malformed : Frame

-- document 01's number of a refusal: 2 "record not 128 bytes"; 3 "byte 0 not `L` or `E` .., byte 127 not newline, or a text byte of class 0"; 0 where there is none
abbrev pub refusal : Frame → ℕ
refusal Line = 0
refusal Event = 0
refusal WrongLength = 2
refusal Malformed = 3

-- `L`, `E` and the newline: "Byte 0 is `L` (a line) or `E` (an act)", "Byte 127 is the newline, value 10"
abbrev pub line_byte : ℕ
line_byte = 76

-- "`E` (an act)"
abbrev pub event_byte : ℕ
event_byte = 69

-- "Byte 127 is the newline, value 10."
abbrev pub newline : ℕ
newline = 10

-- by byte 0: "`L` (a line) or `E` (an act)", else row 3
unfoldable pub kind_by : ℕ → Frame
kind_by b = cond (eqb b line_byte) Line (cond (eqb b event_byte) Event Malformed)

-- row 2: "record not 128 bytes"; row 3: "byte 0 not `L` or `E` .., byte 127 not newline, or a text byte of class 0"
unfoldable pub frame_of : List ℕ → Frame
frame_of s =
    cond (eqb (length s) record_size)
    (cond (eqb (get_or s 127 0) newline)
    (cond (all_classed (text_of s)) (kind_by (get_or s 0 0)) Malformed)
    Malformed)
    WrongLength

-- a frame as the code answers it: the kind of a record, or the row that refuses the bytes
abbrev pub answered : Frame → Result RecordKind Refusal
answered Line = Ok kind.Line
answered Event = Ok kind.Event
answered WrongLength = Err row.RecordLength
answered Malformed = Err row.Malformed
