-- Document 01's sizes and limits. They stand here and nowhere else: every layer, the book among them, reads them from this file.
-- Assumes nothing.
use Rattle.std.specs.Prelude.{ℕ}

-- "A record is 128 bytes"
abbrev pub record_size : ℕ
record_size = 128

-- "Reply, 50 bytes"
abbrev pub reply_size : ℕ
reply_size = 50

-- "A name is a word of 1 to 8 bytes"
abbrev pub name_size : ℕ
name_size = 8

-- "an act of zero to four roles"
abbrev pub event_size : ℕ
event_size = 4

-- Document 02, C-15: "Marks grow from 32 to 64 bits, so that 63 patterns fit beside mark 0": refusal 7 is above it
abbrev pub max_patterns : ℕ
max_patterns = 63

-- "role line with 64 roles held, top included": refusal 8
abbrev pub max_roles : ℕ
max_roles = 64

-- "rule line with 32 rules held": refusal 8
abbrev pub max_rules : ℕ
max_rules = 32

-- "Too long: 64 worked and another due"
abbrev pub max_responses : ℕ
max_responses = 64

-- the judge's list, "not whole records, or over 256 of them": refusal 10 is above it
abbrev pub max_records : ℕ
max_records = 256
