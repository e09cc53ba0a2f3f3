-- Which images are accepted, in the words of C-12 and C-15: its refusal 12 the other way round, with nothing to compute. `accepted_exactly` of proofs/AcceptedLaws.antt says that
-- `restored` gives exactly this.
-- Assumes nothing.
use Rattle.std.specs.Prelude.{◌≡◌, List, [], ◌∷◌, ◌++◌, map, ℕ, ◌^◌, ◌<◌, get_or, replicate}
use Rattle.common.specs.All.{All}
use Rattle.common.specs.Limits.{reply_size}
use Rattle.grammar.specs.Size.{size_past}
use Rattle.frame.specs.Record.{line_byte}
use Rattle.book.specs.Names.{Rule}
use Rattle.book.specs.Decide.{Call, Answer}
use Rattle.book.specs.MachineSteps.{PositionRule, PositionMachine, fresh_machine, machine_step}
use Rattle.book.specs.Session.{answers, left}
use Rattle.book.specs.Images.{in_order, joined, digits, mark_record}
use Rattle.book.specs.Restoring.{short_digits, marks_end}

-- records handed to a machine as single calls, each with 50 bytes for the reply
abbrev pub calls_of : List (List ℕ) → List Call
calls_of rs = map (λ (r : List ℕ). record { bytes = r; buffer = replicate reply_size 0 }) rs

-- "a fresh monitor, given its lines in order": what they leave
abbrev pub left_by : List (List ℕ) → PositionMachine
left_by rs = left machine_step fresh_machine (calls_of rs)

-- the rules without their marks
abbrev pub rules_of : List PositionRule → List Rule
rules_of xs = map (λ (x : PositionRule). x.rule) xs

-- "a record of byte `M`, the name in eight columns, a space, the marks as .. capital hexadecimal digits .., spaces, newline": the record s gives a rule its marks. C-15:
-- "`M` records now carry sixteen digits; any `M` record with eight is still read, its higher marks clear". Sixteen have room for all marks that a past has (`within`)
pub data Gives (x : PositionRule) (s : List ℕ) : Type 0 where
  gives_sixteen : s ≡ mark_record digits x.rule.name x.positions → Gives x s
  gives_eight : s ≡ mark_record short_digits x.rule.name x.positions → x.positions < 16 ^ short_digits → Gives x s

-- "Then for each rule stands a record of byte `M`": each of the rules is given its marks by its own record, in the same order
pub data AllGive : List PositionRule → List (List ℕ) → Type 0 where
  give_none : AllGive [] []
  give_more : {x : PositionRule} {xs : List PositionRule} {s : List ℕ} {ss : List (List ℕ)} → Gives x s → AllGive xs ss → AllGive (x ∷ xs) (s ∷ ss)

-- the image s is accepted, and says the machine t
pub record Accepted (s : List ℕ) (t : PositionMachine) : Type 0 where
  -- "First come the role lines .. Then come the rule lines in order. Then for each rule stands a record of byte `M`"
  pub role_records : List (List ℕ)
  pub rule_records : List (List ℕ)
  pub mark_records : List (List ℕ)
  pub bytes : s ≡ joined ((role_records ++ rule_records) ++ mark_records)
  -- "as `L` records"
  pub lines : All (λ r. get_or r 0 0 ≡ line_byte) (role_records ++ rule_records)
  -- the opposite of "holds a line that a fresh monitor, given its lines in order, would refuse": each call's number is 0
  pub taken : All (λ (a : Answer). a.number ≡ 0) (answers machine_step fresh_machine (calls_of (role_records ++ rule_records)))
  -- the role lines are role lines: they leave no rule; and the rule lines rule lines: they leave no role more
  pub no-rule : (left_by role_records).rules ≡ []
  pub no-role : (left_by (role_records ++ rule_records)).roles ≡ (left_by role_records).roles
  -- the machine has these roles and rules
  pub roles : (left_by (role_records ++ rule_records)).roles ≡ t.roles
  pub rules : rules_of (left_by (role_records ++ rule_records)).rules ≡ rules_of t.rules
  -- the `M` records "name each rule once in order"
  pub marks : AllGive (in_order t.rules) mark_records
  -- "with marks its past has": 0 to the number of its patterns, any of them
  pub within : All (λ (x : PositionRule). x.positions < marks_end (size_past x.rule.past)) t.rules
