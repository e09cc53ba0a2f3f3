-- A machine that an accepted image says is one that operations could leave, and the book that follows its marks is in order.
-- Assumes nothing.
use Rattle.std.proofs.Common.{◌≡◌, refl, sym, ap, ◌∙◌, subst, Bool, true, false, cond, List, [], ◌∷◌, map, ℕ, ◌/◌, ◌%◌, ◌≤◌, arith, eqb, length, replicate, eqb-true}
use Rattle.std.proofs.Math.Option.{Option, none, some, none-ne-some, some-injective}
use Rattle.std.proofs.lemmas.List.{length-map}
use Rattle.common.specs.All.{All}
use Rattle.common.specs.Limits.{record_size, reply_size}
use Rattle.common.proofs.AllLaws.{all_of, all_mapped}
use Rattle.grammar.specs.Size.{size_past}
use Rattle.frame.specs.Records.{records_of}
use Rattle.intake.specs.Asked.{Asked, refused_by, asks_role, asks_rule, asks_event, asked}
use Rattle.intake.specs.Machine.{with_role, with_rule, asked_of}
use Rattle.book.specs.Names.{Name, Roles, Rule, Duty}
use Rattle.book.specs.Decide.{Call, granted, decide, answer}
use Rattle.book.specs.MachineSteps.{PositionRule, PositionMachine, fresh_machine, machine_duty, machine_decides, machine_next, machine_step, with_positions, machine_of}
use Rattle.book.specs.Images.{in_order}
use Rattle.book.specs.Restoring.{line_records, other_records, take_asked, take_line, take_lines, rule_marks, with_marks, read_marks, marks_read, restored_from, restored}
use Rattle.book.specs.Accepted.{rules_of}
use Rattle.book.specs.SessionBook.{given_entry, book_from}
use Rattle.book.proofs.Decided.{RuleFits}
use Rattle.book.proofs.Agree.{Sound}
use Rattle.book.proofs.ImageLists.{then_some}
use Rattle.book.proofs.MarkRecords.{said-within, record-said}
use Rattle.book.proofs.Lasting.{Ruled, Within, Lasting, duties_named, ruled_fits, fresh_lasting, step_lasting}

-- LINES

-- a record handed over as a single call, with 50 bytes for the reply
abbrev pub handed : List ℕ → Call
handed r = record { bytes = r; buffer = replicate reply_size 0 }

-- the call decides by what the record asks
pub handed_decides : (t : PositionMachine) (r : List ℕ) → machine_decides t (handed r) ≡ granted t.roles (map machine_duty t.rules) (asked_of t r)
unfolding decide
handed_decides t r = ap (λ (ns : List Name). granted t.roles (map machine_duty t.rules) (asked t.roles ns r)) (duties_named t.rules)

-- what a line asks that is taken, and the machine with it: a role before every rule, or a rule
pub data Took (t : PositionMachine) : Asked → PositionMachine → Type 0 where
  took_role : {n p : Name} → length t.rules ≡ 0 → Took t (asks_role n p) (with_role t n p)
  took_rule : {r : Rule} → Took t (asks_rule r) (with_rule t r)

-- what is taken is one of these
take_took : (t : PositionMachine) (a : Asked) (u : PositionMachine) → take_asked t a ≡ some u → Took t a u
take_took t (refused_by n) u e = absurd (none-ne-some u e)
take_took t (asks_role n p) u e = go (eqb (length t.rules) 0) refl e
  where
    go : (q : Bool) → eqb (length t.rules) 0 ≡ q → cond q (some (with_role t n p)) none ≡ some u → Took t (asks_role n p) u
    go true f e = subst (Took t (asks_role n p)) (some-injective (with_role t n p) u e) (took_role (eqb-true (length t.rules) 0 f))
    go false f e = absurd (none-ne-some u e)
take_took t (asks_rule r) u e = subst (Took t (asks_rule r)) (some-injective (with_rule t r) u e) took_rule
take_took t (asks_event e) u q = absurd (none-ne-some u q)

-- a call with it leaves that machine
took_next : (t : PositionMachine) (a : Asked) (u : PositionMachine) (rs : Roles) (ds : List Duty) → Took t a u → machine_next t (granted rs ds a) ≡ u
took_next t a u rs ds (took_role h) = refl
took_next t a u rs ds took_rule = refl

-- and its number is 0
pub took_zero : (t : PositionMachine) (a : Asked) (u : PositionMachine) (rs : Roles) (ds : List Duty) (b : List ℕ) → Took t a u → (answer (granted rs ds a) b).number ≡ 0
unfolding answer
took_zero t a u rs ds b (took_role h) = refl
took_zero t a u rs ds b took_rule = refl

-- so a line that is taken leaves what the call leaves
pub line_step : (t : PositionMachine) (r : List ℕ) (u : PositionMachine) → Took t (asked_of t r) u → (machine_step t (handed r)).0 ≡ u
line_step t r u h = ap (machine_next t) (handed_decides t r) ∙ took_next t (asked_of t r) u t.roles (map machine_duty t.rules) h

-- the first of some lines that are taken, and the others
pub record First (t : PositionMachine) (r : List ℕ) (ls : List (List ℕ)) (u : PositionMachine) : Type 0 where
  pub next : PositionMachine
  pub took : Took t (asked_of t r) next
  pub rest : take_lines next ls ≡ some u

-- where lines are taken, the first is
pub first_taken : (t : PositionMachine) (r : List ℕ) (ls : List (List ℕ)) (u : PositionMachine) → take_lines t (r ∷ ls) ≡ some u → First t r ls u
first_taken t r ls u e = let q = then_some (take_line t r) (λ x. take_lines x ls) u e in record { next = q.0; took = take_took t (asked_of t r) q.0 q.1; rest = q.2 }

-- MARKS

-- the same rules, with marks that their pasts have
pub record Remarked (xs ys : List PositionRule) : Type 0 where
  pub rules : rules_of ys ≡ rules_of xs
  pub within : All Within ys

-- one rule more
with_remarked : (x : PositionRule) (xs ys : List PositionRule) (s : List ℕ) (m : Option ℕ) (o : Option (List PositionRule)) → rule_marks x.rule s ≡ m
    → ((zs : List PositionRule) → o ≡ some zs → Remarked xs zs) → with_marks x.rule m o ≡ some ys → Remarked (x ∷ xs) ys
with_remarked x xs ys s none o h k e = absurd (none-ne-some ys e)
with_remarked x xs ys s (some m) none h k e = absurd (none-ne-some ys e)
with_remarked x xs ys s (some m) (some zs) h k e =
    let q = k zs refl in
    subst (Remarked (x ∷ xs)) (some-injective (record { rule = x.rule; positions = m } ∷ zs) ys e)
    (record { rules = ap (λ (l : List Rule). x.rule ∷ l) q.rules; within = (said-within (record-said x.rule.name (size_past x.rule.past) s m h), q.within) })

-- what is read is so
pub marks_remarked : (xs : List PositionRule) (ss : List (List ℕ)) (ys : List PositionRule) → read_marks xs ss ≡ some ys → Remarked xs ys
marks_remarked [] [] ys e = subst (Remarked []) (some-injective [] ys e) (record { rules = refl; within = tt })
marks_remarked [] (s ∷ ss) ys e = absurd (none-ne-some ys e)
marks_remarked (x ∷ xs) [] ys e = absurd (none-ne-some ys e)
marks_remarked (x ∷ xs) (s ∷ ss) ys e = with_remarked x xs ys s (rule_marks x.rule s) (read_marks xs ss) refl (λ zs q. marks_remarked xs ss zs q) e

-- THE IMAGE

-- the lines leave a machine that operations could leave
lines_lasting : (ls : List (List ℕ)) (t u : PositionMachine) → Lasting t → take_lines t ls ≡ some u → Lasting u
lines_lasting [] t u s e = subst Lasting (some-injective t u e) s
lines_lasting (r ∷ ls) t u s e =
    let f = first_taken t r ls u e in
    lines_lasting ls f.next u (subst Lasting (line_step t r f.next f.took) (step_lasting t s (handed r))) f.rest

-- and the marks do
marks_lasting : (t u : PositionMachine) (ss : List (List ℕ)) → Lasting t → marks_read t ss ≡ some u → Lasting u
marks_lasting t u ss s e =
    let q = then_some (read_marks t.rules (in_order ss)) (λ xs. some (record { roles = t.roles; rules = xs })) u e in
    let r = marks_remarked t.rules (in_order ss) q.0 q.1 in
    let n = length-map t.rules (λ (x : PositionRule). x.rule) in
    let m = length-map q.0 (λ (x : PositionRule). x.rule) in
    let k : length (rules_of q.0) ≡ length (rules_of t.rules) = ap length r.rules in
    subst Lasting (some-injective (record { roles = t.roles; rules = q.0 }) u q.2)
    (record {
      grown = s.grown;
      named = s.named;
      few-roles = s.few-roles;
      few-rules = omega (arith, s.few-rules);
      role-lines = s.role-lines;
      ruled = subst (Ruled t.roles) (sym r.rules) s.ruled;
      within = r.within;
    })

-- What an accepted image says is a machine that operations could leave.
pub restored_lasting : (s : List ℕ) (t : PositionMachine) → restored s ≡ some t → Lasting t
unfolding restored
restored_lasting s t = go (eqb (length s % record_size) 0)
  where
    go : (q : Bool) → cond q (restored_from (records_of (length s / record_size) s)) none ≡ some t → Lasting t
    go true e =
        let rs = records_of (length s / record_size) s in
        let q = then_some (take_lines fresh_machine (line_records rs)) (λ u. marks_read u (other_records rs)) t e in
        marks_lasting q.0 t (other_records rs) (lines_lasting (line_records rs) fresh_machine q.0 fresh_lasting q.1) q.2
    go false e = absurd (none-ne-some t e)

-- THE BOOK OF AN IMAGE FROM ELSEWHERE

-- a rule that has seen no event has the marks it was given
given-same : (rs : Roles) (xs : List PositionRule) → map (with_positions rs []) (map given_entry xs) ≡ xs
given-same rs [] = refl
given-same rs (x ∷ xs) = ap (λ (l : List PositionRule). x ∷ l) (given-same rs xs)

-- its marks are those that the image gave
pub from_same : (t : PositionMachine) → machine_of (book_from t) ≡ t
from_same t = ap (λ (l : List PositionRule). record { roles = t.roles; rules = l }) (given-same t.roles t.rules)

-- and it is in order
pub from_sound : (t : PositionMachine) → Lasting t → Sound (book_from t)
from_sound t s =
    let n = length-map t.rules given_entry in
    record {
      grown = s.grown;
      named = s.named;
      few-roles = s.few-roles;
      few-rules = omega (arith, s.few-rules);
      events = tt;
      fits = all_mapped given_entry (λ x. RuleFits t.roles x.rule) t.rules (ruled_fits t.roles t.rules s.ruled);
      starts = all_mapped given_entry (λ x. x.start ≤ 0) t.rules (all_of (λ x. (given_entry x).start ≤ 0) (λ x. omega arith) t.rules);
    }
