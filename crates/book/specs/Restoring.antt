-- Restoring: which images are accepted, and the machine that each says. Document 02, C-12, "Turned away: 12, .."; C-15 for the digits of marks.
-- Assumes nothing.
use Rattle.std.specs.Prelude.{Bool, cond, ◌&&◌, List, [], ◌∷◌, ℕ, suc, ◌+◌, ◌-◌, ◌*◌, ◌/◌, ◌%◌, ◌^◌, eqb, ltb, length, get_or, take, drop}
use Rattle.std.proofs.Math.Option.{Option, none, some}
use Rattle.common.specs.Limits.{record_size}
use Rattle.lexer.specs.Class.{within}
use Rattle.lexer.specs.Words.{same}
use Rattle.grammar.specs.Size.{size_past}
use Rattle.frame.specs.Record.{line_byte}
use Rattle.frame.specs.Records.{records_of}
use Rattle.intake.specs.Asked.{Asked, refused_by, asks_role, asks_rule, asks_event}
use Rattle.intake.specs.Machine.{PositionRule, PositionMachine, fresh_machine, with_role, with_rule, asked_of}
use Rattle.book.specs.Names.{Name, Rule}
use Rattle.book.specs.Images.{in_order, digits, mark_record}

-- what f makes of it, where there is something
abbrev pub and_then : {A B : Type 0} → Option A → (A → Option B) → Option B
and_then none f = none
and_then (some a) f = f a

-- LINES

-- a record of byte `L`
abbrev pub is_line : List ℕ → Bool
is_line r = eqb (get_or r 0 0) line_byte

-- the records before the first that is no `L` record, and those from it on
abbrev pub line_records : List (List ℕ) → List (List ℕ)
line_records [] = []
line_records (r ∷ rs) = cond (is_line r) (r ∷ line_records rs) []

abbrev pub other_records : List (List ℕ) → List (List ℕ)
other_records [] = []
other_records (r ∷ rs) = cond (is_line r) (other_records rs) (r ∷ rs)

-- "holds a line that a fresh monitor, given its lines in order, would refuse, holds records in another order": a role line stands before every rule line
abbrev pub take_asked : PositionMachine → Asked → Option PositionMachine
take_asked t (refused_by n) = none
take_asked t (asks_role n p) = cond (eqb (length t.rules) 0) (some (with_role t n p)) none
take_asked t (asks_rule r) = some (with_rule t r)
take_asked t (asks_event e) = none

-- one line record
abbrev pub take_line : PositionMachine → List ℕ → Option PositionMachine
take_line t r = take_asked t (asked_of t r)

-- "given its lines in order"
abbrev pub take_lines : PositionMachine → List (List ℕ) → Option PositionMachine
take_lines t [] = some t
take_lines t (r ∷ rs) = and_then (take_line t r) (λ u. take_lines u rs)

-- MARKS

-- the value of a capital hexadecimal digit; of any other byte 0, which is the value of another digit than that byte
unfoldable pub hex_value : ℕ → ℕ
hex_value b = cond (within 48 57 b) (b - 48) (cond (within 65 70 b) (b - 55) 0)

-- the number that some digits say, after those that say v
abbrev pub value_from : ℕ → List ℕ → ℕ
value_from v [] = v
value_from v (b ∷ s) = value_from (v * 16 + hex_value b) s

-- the number in the k columns from 10 on
unfoldable pub marks_in : ℕ → List ℕ → ℕ
marks_in k r = value_from 0 (take k (drop 10 r))

-- the sets of marks among 0 to n are the numbers below this
abbrev pub marks_end : ℕ → ℕ
marks_end n = 2 ^ suc n

-- The marks in an `M` record of k digits, for a rule of that name whose past has n patterns: every byte is as it is written in k digits ("of another form than those above"),
-- and they are "marks its past has", 0 to n. `read_mark_exactly` of proofs/MarkRecords.antt says so with nothing to compute.
unfoldable pub read_mark : ℕ → Name → ℕ → List ℕ → Option ℕ
read_mark k w n s = cond (same s (mark_record k w (marks_in k s)) && ltb (marks_in k s) (marks_end n)) (some (marks_in k s)) none

-- "any `M` record with eight is still read, its higher marks clear"
abbrev pub short_digits : ℕ
short_digits = 8

-- how many digits an `M` record is read with: eight where a space follows eight columns of them, else sixteen
unfoldable pub digits_of : List ℕ → ℕ
digits_of s = cond (eqb (get_or s 18 0) 32) short_digits digits

-- the marks in an `M` record of either kind
unfoldable pub record_marks : Name → ℕ → List ℕ → Option ℕ
record_marks w n s = read_mark (digits_of s) w n s

-- of a rule
abbrev pub rule_marks : Rule → List ℕ → Option ℕ
rule_marks r s = record_marks r.name (size_past r.past) s

-- a rule's marks put in front of the others
abbrev pub with_marks : Rule → Option ℕ → Option (List PositionRule) → Option (List PositionRule)
with_marks r none xs = none
with_marks r (some m) none = none
with_marks r (some m) (some xs) = some (record { rule = r; positions = m } ∷ xs)

-- "whose `M` records don't name each rule once in order": rules and records stand the last first
abbrev pub read_marks : List PositionRule → List (List ℕ) → Option (List PositionRule)
read_marks [] [] = some []
read_marks [] (s ∷ ss) = none
read_marks (x ∷ xs) [] = none
read_marks (x ∷ xs) (s ∷ ss) = with_marks x.rule (rule_marks x.rule s) (read_marks xs ss)

-- the machine with the marks that the records give
abbrev pub marks_read : PositionMachine → List (List ℕ) → Option PositionMachine
marks_read t ss = and_then (read_marks t.rules (in_order ss)) (λ xs. some (record { roles = t.roles; rules = xs }))

-- THE IMAGE

-- the machine that records say, or none
abbrev pub restored_from : List (List ℕ) → Option PositionMachine
restored_from rs = and_then (take_lines fresh_machine (line_records rs)) (λ t. marks_read t (other_records rs))

-- The machine that an image says; none where it is turned away by 12: "an image that isn't whole records, ..".
unfoldable pub restored : List ℕ → Option PositionMachine
restored s = cond (eqb (length s % record_size) 0) (restored_from (records_of (length s / record_size) s)) none
