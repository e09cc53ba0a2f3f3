-- Images: what keeping writes. Document 02, C-12: "The monitor is written out as an image, records of 128 bytes again."; C-15 for the digits of marks.
-- Assumes nothing.
use Rattle.std.specs.Prelude.{cond, List, [], ◌∷◌, ◌++◌, map, ℕ, zero, suc, ◌+◌, ◌/◌, ◌%◌, ltb, drop}
use Rattle.common.specs.Limits.{name_size}
use Rattle.grammar.specs.AsRead.{Line, role, rule}
use Rattle.columns.specs.Texts.{padded}
use Rattle.patterns.specs.Roles.{Role}
use Rattle.render.specs.Records.{text_record, line_record}
use Rattle.intake.specs.Machine.{PositionRule, PositionMachine}
use Rattle.book.specs.Names.{Name, Rule}

-- LISTS

-- a list in which the last declared stands first, in declared order
abbrev pub in_order : {A : Type 0} → List A → List A
in_order [] = []
in_order (a ∷ l) = in_order l ++ (a ∷ [])

-- records one after the other
abbrev pub joined : List (List ℕ) → List ℕ
joined [] = []
joined (r ∷ rs) = r ++ joined rs

-- MARKS (the format's word; elsewhere they are positions)

-- "byte `M`"
abbrev pub mark_byte : ℕ
mark_byte = 77

-- C-15: "`M` records now carry sixteen digits", "keeping writes sixteen"; C-12's "eight capital hexadecimal digits" are still read (specs/Restoring.antt)
abbrev pub digits : ℕ
digits = 16

-- a capital hexadecimal digit: 48 is `0`, 65 is `A`
unfoldable pub hex_digit : ℕ → ℕ
hex_digit d = cond (ltb d 10) (48 + d) (55 + d)

-- k digits, "(bit k is mark k)": the last digit has marks 0 to 3
unfoldable pub hex_of : ℕ → ℕ → List ℕ
hex_of zero m = []
hex_of (suc k) m = hex_of k (m / 16) ++ (hex_digit (m % 16) ∷ [])

-- "a record of byte `M`, the name in eight columns, a space, the marks as .. capital hexadecimal digits .., spaces, newline": with k digits
unfoldable pub mark_record : ℕ → Name → ℕ → List ℕ
mark_record k w m = text_record mark_byte (padded name_size w ++ (32 ∷ hex_of k m))

-- THE IMAGE

-- the lines of a role and of a rule
abbrev pub role_line : Role Name → Line
role_line r = role r.name r.parent

abbrev pub rule_line : Rule → Line
rule_line r = rule r.name r.past r.trigger r.response

-- the records of a role, of a rule, and of a rule's marks
abbrev pub role_record : Role Name → List ℕ
role_record r = line_record (role_line r)

abbrev pub rule_record : PositionRule → List ℕ
rule_record x = line_record (rule_line x.rule)

abbrev pub marks_record : PositionRule → List ℕ
marks_record x = mark_record digits x.rule.name x.positions

-- "First come the role lines in declared order without top, as `L` records. Then come the rule lines in order. Then for each rule stands a record of byte `M`": top
-- is the first declared
abbrev pub image_records : PositionMachine → List (List ℕ)
image_records t = map role_record (drop 1 (in_order t.roles)) ++ (map rule_record (in_order t.rules) ++ map marks_record (in_order t.rules))

-- all its bytes
abbrev pub image_of : PositionMachine → List ℕ
image_of t = joined (image_records t)
