-- An image that is accepted by the words of specs/Accepted.antt is taken by `restored`, which gives the machine that they say.
-- Assumes nothing.
use Rattle.std.proofs.Common.{◌≡◌, refl, sym, ap, ◌∙◌, subst, Bool, cond, List, [], ◌∷◌, ◌++◌, map, ℕ, ◌≤◌, arith, length, get_or, eq-eqb}
use Rattle.std.proofs.lemmas.List.{map-append, length-map}
use Rattle.std.proofs.Math.Option.{Option, none, some}
use Rattle.common.specs.All.{All}
use Rattle.common.proofs.AllLaws.{all_append, all_left, all_right, all_map}
use Rattle.frame.specs.Record.{line_byte}
use Rattle.intake.specs.Asked.{Asked, refused_by, asks_role, asks_rule, asks_event}
use Rattle.intake.specs.Machine.{names_of, with_role, asked_of}
use Rattle.intake.specs.Rows.{RecordRow, row_2, row_3, row_4_line, row_4_event, row_5_role, row_5_rule, row_6_role, row_6_rule, row_6_event, row_7, row_8_role, row_8_rule, takes_role, takes_rule, takes_event}
use Rattle.intake.proofs.Rows.{asked-row}
use Rattle.chain.specs.Work.{committed, held, unfit, too_long}
use Rattle.book.specs.Names.{Name, Roles, Rule, Duty}
use Rattle.book.specs.Decide.{Call, Answer, Decision, refused, new_role, new_rule, worked, granted, answer}
use Rattle.book.specs.MachineSteps.{PositionMachine, fresh_machine, machine_duty, machine_decides, move_on, machine_next, machine_step}
use Rattle.book.specs.Session.{answers, left}
use Rattle.book.specs.Restoring.{and_then, take_asked, take_line, take_lines, marks_read, restored}
use Rattle.book.specs.Accepted.{calls_of, left_by, rules_of, Accepted}
use Rattle.book.proofs.Runs.{left-append, answers-append}
use Rattle.book.proofs.ImageLists.{Whole, IsLine, take-append}
use Rattle.book.proofs.Lasting.{Ruled, Lasting, fresh_lasting, left_lasting}
use Rattle.book.proofs.GivenRecords.{given_wholes, given_no_lines}
use Rattle.book.proofs.Restored.{marks-restored, joined-restored, parts-restored}
use Rattle.book.proofs.Accepted.{handed, handed_decides}

-- a call that is not refused
abbrev pub Zero : Answer → Type 0
Zero a = a.number ≡ 0

-- a record of byte `L`
abbrev pub Lined : List ℕ → Type 0
Lined r = get_or r 0 0 ≡ line_byte

-- A LINE THAT IS NOT REFUSED

-- it is a whole record and declares a role or a rule
data Declares (r : List ℕ) : Asked → Type 0 where
  role-line : {n p : Name} → Whole r → Declares r (asks_role n p)
  rule-line : {x : Rule} → Whole r → Declares r (asks_rule x)

-- every refusal has another number, and an act another byte 0
zero_declares : (rs : Roles) (ns : List Name) (ds : List Duty) (b r : List ℕ) → Lined r → (a : Asked) → RecordRow rs ns r a → (answer (granted rs ds a) b).number ≡ 0 → Declares r a
unfolding answer
zero_declares rs ns ds b r h a (row_2 k) e = absurd (omega arith)
zero_declares rs ns ds b r h a (row_3 k l) e = absurd (omega arith)
zero_declares rs ns ds b r h a (row_4_line k l) e = absurd (omega arith)
zero_declares rs ns ds b r h a (row_4_event k l) e = absurd (omega arith)
zero_declares rs ns ds b r h a (row_5_role k l) e = absurd (omega arith)
zero_declares rs ns ds b r h a (row_5_rule k l) e = absurd (omega arith)
zero_declares rs ns ds b r h a (row_6_role k l m) e = absurd (omega arith)
zero_declares rs ns ds b r h a (row_6_rule k l m) e = absurd (omega arith)
zero_declares rs ns ds b r h a (row_6_event k l) e = absurd (omega arith)
zero_declares rs ns ds b r h a (row_7 k l m z) e = absurd (omega arith)
zero_declares rs ns ds b r h a (row_8_role k l) e = absurd (omega arith)
zero_declares rs ns ds b r h a (row_8_rule k l) e = absurd (omega arith)
zero_declares rs ns ds b r h a (takes_role k l) e = role-line k.said.framed.size
zero_declares rs ns ds b r h a (takes_rule k l) e = rule-line k.said.framed.size
zero_declares rs ns ds b r h a (takes_event k l) e = let z = k.framed.first in absurd (omega arith)

module _ (t : PositionMachine) (r : List ℕ) (h : Lined r) (z : Zero (machine_step t (handed r)).1) where
  -- so does the line of such a call
  declares : Declares r (asked_of t r)
  declares =
      zero_declares t.roles (names_of t.rules) (map machine_duty t.rules) (handed r).buffer r h (asked_of t r) (asked-row t.roles (names_of t.rules) r)
      (ap (λ (d : Decision). (answer d (handed r).buffer).number) (sym (handed_decides t r)) ∙ z)

  -- it is whole
  line-whole : Whole r
  line-whole = go (declares)
    where
      go : {a : Asked} → Declares r a → Whole r
      go (role-line k) = k
      go (rule-line k) = k

  -- it is taken; a role line, where there is no rule yet
  line-take : ((n p : Name) → asked_of t r ≡ asks_role n p → length t.rules ≡ 0) → take_line t r ≡ some (machine_step t (handed r)).0
  line-take f = go (asked_of t r) declares f ∙ ap (λ (d : Decision). some (machine_next t d)) (sym (handed_decides t r))
    where
      go : (a : Asked) → Declares r a → ((n p : Name) → a ≡ asks_role n p → length t.rules ≡ 0) → take_asked t a ≡ some (machine_next t (granted t.roles (map machine_duty t.rules) a))
      go (asks_role n p) (role-line k) f = ap (λ (q : Bool). cond q (some (with_role t n p)) none) (eq-eqb (length t.rules) 0 (f n p refl))
      go (asks_rule x) (rule-line k) f = refl
      go (refused_by _) x3 f = elim x3 [ ]
      go (asks_event _) x4 f = elim x4 [ ]

-- LINES

-- roles and rules only join
next_grows : (t : PositionMachine) (d : Decision) → (length t.roles ≤ length (machine_next t d).roles) × (length t.rules ≤ length (machine_next t d).rules)
next_grows t (refused n) = (omega arith, omega arith)
next_grows t (new_role n p) = (omega arith, omega arith)
next_grows t (new_rule r) = (omega arith, omega arith)
next_grows t (worked (committed e n)) = (omega arith, (let h = length-map t.rules (move_on t.roles e) in omega arith))
next_grows t (worked (held w n)) = (omega arith, omega arith)
next_grows t (worked (unfit w n)) = (omega arith, omega arith)
next_grows t (worked (too_long w)) = (omega arith, omega arith)

-- over any calls
left_grows : (cs : List Call) (t : PositionMachine) → (length t.roles ≤ length (left machine_step t cs).roles) × (length t.rules ≤ length (left machine_step t cs).rules)
left_grows [] t = (omega arith, omega arith)
left_grows (c ∷ cs) t = let a = next_grows t (machine_decides t c) in let b = left_grows cs (machine_step t c).0 in (omega (arith, a.0, b.0), omega (arith, a.1, b.1))

-- every line is whole
lines-whole : (ls : List (List ℕ)) (t : PositionMachine) → All Lined ls → All Zero (answers machine_step t (calls_of ls)) → All Whole ls
lines-whole [] t h z = tt
lines-whole (r ∷ ls) t h z = (line-whole t r h.0 z.0, lines-whole ls (machine_step t (handed r)).0 h.1 z.1)

-- lines that leave no rule are taken
roles-take : (ls : List (List ℕ)) (t : PositionMachine) → All Lined ls → All Zero (answers machine_step t (calls_of ls)) → length (left machine_step t (calls_of ls)).rules ≡ 0
    → take_lines t ls ≡ some (left machine_step t (calls_of ls))
roles-take [] t h z e = refl
roles-take (r ∷ ls) t h z e =
    ap (λ (o : Option PositionMachine). and_then o (λ u. take_lines u ls))
    (line-take t r h.0 z.0 (λ n p q. let g = left_grows (calls_of (r ∷ ls)) t in omega (arith, g.1)))
    ∙ roles-take ls (machine_step t (handed r)).0 h.1 z.1 e

-- and lines that leave no role more
rules-take : (ls : List (List ℕ)) (t : PositionMachine) → All Lined ls → All Zero (answers machine_step t (calls_of ls)) → length (left machine_step t (calls_of ls)).roles ≡ length t.roles
    → take_lines t ls ≡ some (left machine_step t (calls_of ls))
rules-take [] t h z e = refl
rules-take (r ∷ ls) t h z e =
    ap (λ (o : Option PositionMachine). and_then o (λ u. take_lines u ls)) (line-take t r h.0 z.0 (λ n p q. absurd (more n p q)))
    ∙ rules-take ls (machine_step t (handed r)).0 h.1 z.1 (let a = next_grows t (machine_decides t (handed r)) in omega (arith, a.0, grown))
  where
    -- the lines after it take no role away
    grown : length (machine_step t (handed r)).0.roles ≤ length (left machine_step (machine_step t (handed r)).0 (calls_of ls)).roles
    grown = (left_grows (calls_of ls) (machine_step t (handed r)).0).0

    -- so it asks for none
    more : (n p : Name) → asked_of t r ≡ asks_role n p → ⊥
    more n p q =
        let k = ap (λ (d : Decision). length (machine_next t d).roles) (handed_decides t r ∙ ap (granted t.roles (map machine_duty t.rules)) q) in
        omega (arith, grown, e, k)

-- THE IMAGE

module _ (s : List ℕ) (t : PositionMachine) (a : Accepted s t) where
  -- its lines
  abbrev ls : List (List ℕ)
  ls = a.role_records ++ a.rule_records

  -- its marks
  abbrev ms : List (List ℕ)
  ms = a.mark_records

  -- its lines are taken
  lines-take : take_lines fresh_machine ls ≡ some (left_by ls)
  lines-take =
      let us : List (List ℕ) = a.role_records in
      let vs : List (List ℕ) = a.rule_records in
      let m : calls_of ls ≡ calls_of us ++ calls_of vs = map-append handed us vs in
      let xs : List Answer = answers machine_step fresh_machine (calls_of us) in
      let ys : List Answer = answers machine_step (left_by us) (calls_of vs) in
      let z : All Zero (xs ++ ys) = subst (All Zero) (ap (answers machine_step fresh_machine) m ∙ answers-append machine_step fresh_machine (calls_of us) (calls_of vs)) a.taken in
      let w : left_by ls ≡ left machine_step (left_by us) (calls_of vs) = ap (left machine_step fresh_machine) m ∙ left-append machine_step fresh_machine (calls_of us) (calls_of vs) in
      take-append us vs fresh_machine
      ∙ ap (λ (o : Option PositionMachine). and_then o (λ u. take_lines u vs)) (roles-take us fresh_machine (all_left Lined us vs a.lines) (all_left Zero xs ys z) (ap length a.no-rule))
      ∙ rules-take vs (left_by us) (all_right Lined us vs a.lines) (all_right Zero xs ys z) (ap (λ (u : PositionMachine). length u.roles) (sym w) ∙ ap length a.no-role)
      ∙ ap some (sym w)

  -- the whole image
  pub accepted-restored : restored s ≡ some t
  accepted-restored =
      let l : Lasting (left_by ls) = left_lasting (calls_of ls) fresh_machine fresh_lasting in
      let il : All IsLine ls = all_map Lined IsLine (λ r e. eq-eqb (get_or r 0 0) line_byte e) ls a.lines in
      ap restored a.bytes
      ∙ joined-restored (ls ++ ms) (all_append Whole ls ms (lines-whole ls fresh_machine a.lines a.taken) (given_wholes a.marks))
      ∙ parts-restored ls ms il (given_no_lines a.marks)
      ∙ ap (λ (x : Option PositionMachine). and_then x (λ u. marks_read u ms)) lines-take
      ∙ marks-restored (left_by ls) t ms a.roles a.rules (subst (λ (r : Roles). Ruled r (rules_of t.rules)) a.roles (subst (Ruled (left_by ls).roles) a.rules l.ruled)) a.within a.marks
