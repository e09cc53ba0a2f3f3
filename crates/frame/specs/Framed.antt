-- What each answer says of the bytes, in document 01's own words ("A record" and rows 2 and 3 of the refusals), with no test to compute.
-- Assumes nothing.
use Rattle.std.specs.Prelude.{◌≡◌, List, ℕ, ◌≤◌, length, get_or}
use Rattle.common.specs.Limits.{record_size}
use Rattle.lexer.specs.Class.{class_of}
use Rattle.frame.specs.Record.{line_byte, event_byte, newline}
use Rattle.frame.specs.Record.{Frame, Line, Event, WrongLength, Malformed}

-- "A record has 128 bytes and no header.", byte 0 is b, "Byte 127 is the newline", and no text byte (1 to 126) is of class 0
pub record Framed (b : ℕ) (s : List ℕ) : Type 0 where
  pub size : length s ≡ record_size
  pub first : get_or s 0 0 ≡ b
  pub end : get_or s 127 0 ≡ newline
  pub classed : (i : ℕ) → 1 ≤ i → i ≤ 126 → class_of (get_or s i 0) ≡ 0 → ⊥

-- row 3: "byte 0 not `L` or `E` .., byte 127 not newline, or a text byte of class 0"
pub data Fault (s : List ℕ) : Type 0 where
  kindless : (get_or s 0 0 ≡ line_byte → ⊥) → (get_or s 0 0 ≡ event_byte → ⊥) → Fault s
  endless : (get_or s 127 0 ≡ newline → ⊥) → Fault s
  classless : (i : ℕ) → 1 ≤ i → i ≤ 126 → class_of (get_or s i 0) ≡ 0 → Fault s

-- what an answer says of the bytes; row 2: "record not 128 bytes"
abbrev pub Says : List ℕ → Frame → Type 0
Says s Line = Framed line_byte s
Says s Event = Framed event_byte s
Says s WrongLength = length s ≡ record_size → ⊥
Says s Malformed = (length s ≡ record_size) × Fault s
