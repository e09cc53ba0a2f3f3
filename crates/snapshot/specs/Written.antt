-- The image of a state, any state: what keeping writes, from its arrays. `image_of_state` of proofs/StateImage.antt: of a state that represents a machine it is that machine's.
-- Assumes nothing.
use Rattle.std.specs.Prelude.{List, [], ◌++◌, ◌≡◌, ℕ, zero, suc, ◌-◌, get_or, Result, Ok, Err}
use Rattle.common.specs.Limits.{max_roles, max_rules}
use Rattle.common.specs.declared.refusals.Refusal.{Refusal}
use Rattle.names.specs.Unpacked.{unpacked}
use Rattle.grammar.specs.AsRead.{role}
use Rattle.frame.specs.Record.{line_byte}
use Rattle.follow.specs.Rows.{row_at, code_of}
use Rattle.follow.specs.State.{capped}
use Rattle.follow.specs.declared.state.State.{State}
use Rattle.render.specs.Decoded.{rule_text}
use Rattle.render.specs.Records.{text_record, line_record}
use Rattle.book.specs.Images.{digits, mark_record}
use Rattle.book.specs.Operations.{kept, kept_in}

-- the first n records of f, one after the other
abbrev pub first_of : (ℕ → List ℕ) → ℕ → List ℕ
first_of f zero = []
first_of f (suc n) = first_of f n ++ f n

-- the packed name of role i's parent
abbrev pub parent_in : List ℕ → List ℕ → ℕ → ℕ
parent_in names parents i = get_or names (get_or parents i 0) 0

-- "the role lines in declared order without top": record i is of role i + 1
abbrev pub role_at : List ℕ → List ℕ → ℕ → List ℕ
role_at names parents i = line_record (role (unpacked (get_or names (suc i) 0)) (unpacked (parent_in names parents (suc i))))

-- "Then come the rule lines in order.": written back from the rule's code
abbrev pub rule_at : List ℕ → List ℕ → List ℕ → ℕ → List ℕ
rule_at names rule_names rows i = text_record line_byte (rule_text names (get_or rule_names i 0) (code_of (row_at rows i)))

-- "Then for each rule stands a record of byte `M`"
abbrev pub marks_at : List ℕ → List ℕ → ℕ → List ℕ
marks_at rule_names positions i = mark_record digits (unpacked (get_or rule_names i 0)) (get_or positions i 0)

-- the image of some arrays: so many roles after top, and so many rules
unfoldable pub image_from : List ℕ → List ℕ → ℕ → List ℕ → List ℕ → List ℕ → ℕ → List ℕ
image_from names parents roles rule_names rows positions rules =
    first_of (role_at names parents) roles ++ (first_of (rule_at names rule_names rows) rules ++ first_of (marks_at rule_names positions) rules)

-- how many roles after top, and how many rules, a state has
abbrev pub roles_after_top : State → ℕ
roles_after_top f = capped max_roles f.sheet.role_count - 1

abbrev pub rules_in : State → ℕ
rules_in f = capped max_rules f.sheet.rule_count

-- the image of a state
abbrev pub state_image : State → List ℕ
state_image f = image_from f.sheet.names f.sheet.parents (roles_after_top f) f.sheet.rule_names f.sheet.rows f.positions (rules_in f)

-- document 02's number: 0, or 13 where the buffer is too short; how many records were written; and the monitor, as it was
pub record Kept : Type 0 where
  pub number : ℕ
  pub count : ℕ
  pub monitor : State

-- "Keeping hands back how many records it wrote"; "13, .. 0 records handed back"
abbrev pub count_written : Result ℕ Refusal → ℕ
count_written (Ok n) = n
count_written (Err e) = 0

-- what keeping promises, of any monitor: the result is that of its image in the lent buffer, and the monitor is as it was
pub record Keeps (f : State) (lent left : List ℕ) (r : Kept) : Type 0 where
  pub monitor : r.monitor ≡ f
  pub result : kept r.number r.count left ≡ kept_in (state_image f) lent

-- what `keep` promises of the buffer lent on the monitor m: the number, how many records were written, the buffer, and the monitor handed back
abbrev pub KeptAs : State → List ℕ → ℕ → ℕ → List ℕ → State → Type 0
KeptAs m lent n k b m' = Keeps m lent b (record { number = n; count = k; monitor = m' })
