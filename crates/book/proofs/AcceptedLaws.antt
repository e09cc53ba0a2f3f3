-- `restored` accepts exactly the images of specs/Accepted.antt: refusal 12 the other way round.
-- Assumes nothing.
use Rattle.std.proofs.Common.{◌≡◌, refl, sym, ap, ◌∙◌, subst, Bool, true, false, cond, List, [], ◌∷◌, ◌++◌, map, ◌↔◌, ℕ, ◌/◌, ◌%◌, ◌<◌, arith, eqb, length, eqb-true}
use Rattle.std.proofs.Math.Option.{Option, none, some, none-ne-some, some-injective}
use Rattle.common.specs.All.{All}
use Rattle.common.specs.Limits.{record_size}
use Rattle.grammar.specs.Size.{size_past}
use Rattle.frame.specs.Records.{records_of}
use Rattle.intake.specs.Asked.{Asked}
use Rattle.intake.specs.Machine.{asked_of}
use Rattle.book.specs.Decide.{Decision, answer}
use Rattle.book.specs.MachineSteps.{PositionRule, PositionMachine, fresh_machine, machine_duty, machine_step}
use Rattle.book.specs.Session.{answers, left}
use Rattle.book.specs.Images.{in_order, joined}
use Rattle.book.specs.Restoring.{line_records, other_records, take_lines, rule_marks, with_marks, read_marks, marks_read, restored_from, restored}
use Rattle.book.specs.Accepted.{calls_of, left_by, rules_of, AllGive, give_none, give_more, Accepted}
use Rattle.book.proofs.ImageLists.{order_twice, cut_joined, split_lines, lines_lined, then_some}
use Rattle.book.proofs.MarkRecords.{record-said}
use Rattle.book.proofs.GivenRecords.{said_given, gives_in_order}
use Rattle.book.proofs.Accepted.{handed, handed_decides, Took, took_role, took_rule, took_zero, line_step, first_taken, marks_remarked}
use Rattle.book.proofs.AcceptedTaken.{Zero, Lined, accepted-restored}

-- LINES THAT ARE TAKEN

-- the calls with them are not refused, and leave what they leave
taken_zero : (ls : List (List ℕ)) (t u : PositionMachine) → take_lines t ls ≡ some u → All Zero (answers machine_step t (calls_of ls)) × (left machine_step t (calls_of ls) ≡ u)
taken_zero [] t u e = (tt, some-injective t u e)
taken_zero (r ∷ ls) t u e =
    let f = first_taken t r ls u e in
    let q : (machine_step t (handed r)).0 ≡ f.next = line_step t r f.next f.took in
    let h = taken_zero ls (machine_step t (handed r)).0 u (ap (λ (x : PositionMachine). take_lines x ls) q ∙ f.rest) in
    let z : Zero (machine_step t (handed r)).1 =
    ap (λ (d : Decision). (answer d (handed r).buffer).number) (handed_decides t r) ∙ took_zero t (asked_of t r) f.next t.roles (map machine_duty t.rules) (handed r).buffer f.took in
    ((z, h.0), h.1)

-- after a rule no role is taken
roles_stay : (ls : List (List ℕ)) (t u : PositionMachine) → 0 < length t.rules → take_lines t ls ≡ some u → u.roles ≡ t.roles
roles_stay [] t u h e = ap (λ (x : PositionMachine). x.roles) (sym (some-injective t u e))
roles_stay (r ∷ ls) t u h e = let f = first_taken t r ls u e in go (asked_of t r) f.next f.took (λ k. roles_stay ls f.next u k f.rest)
  where
    go : (a : Asked) (v : PositionMachine) → Took t a v → (0 < length v.rules → u.roles ≡ v.roles) → u.roles ≡ t.roles
    go a v (took_role k) more = absurd (omega arith)
    go a v took_rule more = more (omega arith)

-- "First come the role lines .. Then come the rule lines": lines that are taken, cut there
record Split (t : PositionMachine) (ls : List (List ℕ)) (u : PositionMachine) : Type 0 where
  us : List (List ℕ)
  vs : List (List ℕ)
  cut : ls ≡ us ++ vs
  no-rule : (left machine_step t (calls_of us)).rules ≡ t.rules
  no-role : u.roles ≡ (left machine_step t (calls_of us)).roles

-- where lines are taken they can be so cut
split : (ls : List (List ℕ)) (t u : PositionMachine) → take_lines t ls ≡ some u → Split t ls u
split [] t u e = record { us = []; vs = []; cut = refl; no-rule = refl; no-role = ap (λ (x : PositionMachine). x.roles) (sym (some-injective t u e)) }
split (r ∷ ls) t u e = let f = first_taken t r ls u e in go (asked_of t r) f.next f.took (line_step t r f.next f.took) f.rest (split ls f.next u f.rest)
  where
    go : (a : Asked) (v : PositionMachine) → Took t a v → (machine_step t (handed r)).0 ≡ v → take_lines v ls ≡ some u → Split v ls u → Split t (r ∷ ls) u
    go a v (took_role k) q rest s =
        record {
          us = r ∷ s.us;
          vs = s.vs;
          cut = ap (λ (x : List (List ℕ)). r ∷ x) s.cut;
          no-rule = ap (λ (x : PositionMachine). (left machine_step x (calls_of s.us)).rules) q ∙ s.no-rule;
          no-role = s.no-role ∙ ap (λ (x : PositionMachine). (left machine_step x (calls_of s.us)).roles) (sym q);
        }
    go a v took_rule q rest s = record { us = []; vs = r ∷ ls; cut = refl; no-rule = refl; no-role = roles_stay ls v u (omega arith) rest }

-- THE RECORDS OF MARKS

-- those that are read give the marks
marks_are : (ys : List PositionRule) (ss : List (List ℕ)) (xs : List PositionRule) → read_marks ys ss ≡ some xs → AllGive xs ss
marks_are [] [] xs e = subst (λ (l : List PositionRule). AllGive l []) (some-injective [] xs e) give_none
marks_are [] (s ∷ ss) xs e = absurd (none-ne-some xs e)
marks_are (y ∷ ys) [] xs e = absurd (none-ne-some xs e)
marks_are (y ∷ ys) (s ∷ ss) xs e = go (rule_marks y.rule s) (read_marks ys ss) refl (λ zs h. marks_are ys ss zs h) e
  where
    go : (o : Option ℕ) (z : Option (List PositionRule)) → rule_marks y.rule s ≡ o
        → ((zs : List PositionRule) → z ≡ some zs → AllGive zs ss) → with_marks y.rule o z ≡ some xs → AllGive xs (s ∷ ss)
    go none z h k e = absurd (none-ne-some xs e)
    go (some m) none h k e = absurd (none-ne-some xs e)
    go (some m) (some zs) h k e =
        let x : PositionRule = record { rule = y.rule; positions = m } in
        subst (λ (l : List PositionRule). AllGive l (s ∷ ss)) (some-injective (x ∷ zs) xs e)
        (give_more (said_given x s (record-said y.rule.name (size_past y.rule.past) s m h)) (k zs refl))

-- THE IMAGE

module _ (s : List ℕ) where
  -- its records
  abbrev rs : List (List ℕ)
  rs = records_of (length s / record_size) s

  -- the lines in front
  abbrev ls : List (List ℕ)
  ls = line_records rs

  -- those from the first that is none on
  abbrev os : List (List ℕ)
  os = other_records rs

  -- the lines leave u, and with the marks xs it is the machine of the image
  records-accepted : length s % record_size ≡ 0 → (u : PositionMachine) (xs : List PositionRule) → take_lines fresh_machine ls ≡ some u → read_marks u.rules (in_order os) ≡ some xs
      → Accepted s (record { roles = u.roles; rules = xs })
  records-accepted z u xs e f =
      let k = split ls fresh_machine u e in
      let n = taken_zero ls fresh_machine u e in
      let r = marks_remarked u.rules (in_order os) xs f in
      let c : k.us ++ k.vs ≡ ls = sym k.cut in
      let l : left_by (k.us ++ k.vs) ≡ u = ap left_by c ∙ n.1 in
      record {
        role_records = k.us;
        rule_records = k.vs;
        mark_records = os;
        bytes = sym (cut_joined (length s / record_size) s (omega (arith, z))) ∙ ap joined (split_lines rs ∙ ap (λ (x : List (List ℕ)). x ++ os) (sym c));
        lines = subst (All Lined) (sym c) (lines_lined rs);
        taken = subst (λ (x : List (List ℕ)). All Zero (answers machine_step fresh_machine (calls_of x))) (sym c) n.0;
        no-rule = k.no-rule;
        no-role = ap (λ (x : PositionMachine). x.roles) l ∙ k.no-role;
        roles = ap (λ (x : PositionMachine). x.roles) l;
        rules = ap (λ (x : PositionMachine). rules_of x.rules) l ∙ sym r.rules;
        marks = subst (λ (l : List (List ℕ)). AllGive (in_order xs) l) (order_twice os) (gives_in_order (marks_are u.rules (in_order os) xs f));
        within = r.within;
      }

-- what `restored` gives is so by the words
restored-accepted : (s : List ℕ) (t : PositionMachine) → restored s ≡ some t → Accepted s t
unfolding restored
restored-accepted s t = go (eqb (length s % record_size) 0) refl
  where
    go : (q : Bool) → eqb (length s % record_size) 0 ≡ q → cond q (restored_from (rs s)) none ≡ some t → Accepted s t
    go false f e = absurd (none-ne-some t e)
    go true f e =
        let q = then_some (take_lines fresh_machine (ls s)) (λ u. marks_read u (os s)) t e in
        let u : PositionMachine = q.0 in
        let m = then_some (read_marks u.rules (in_order (os s))) (λ xs. some (record { roles = u.roles; rules = xs })) t q.2 in
        subst (Accepted s) (some-injective (record { roles = u.roles; rules = m.0 }) t m.2)
        (records-accepted s (eqb-true (length s % record_size) 0 f) u m.0 q.1 m.1)

-- An image is accepted, and says t, exactly where the words of C-12 and C-15 say so.
pub accepted_exactly : (s : List ℕ) (t : PositionMachine) → (restored s ≡ some t) ↔ Accepted s t
accepted_exactly s t = (restored-accepted s t, accepted-restored s t)

-- "Turned away: 12": exactly where they say so of no machine.
pub turned_away_exactly : (s : List ℕ) → (restored s ≡ none) ↔ ((t : PositionMachine) → Accepted s t → ⊥)
turned_away_exactly s = (λ e t a. none-ne-some t (sym e ∙ accepted-restored s t a), λ h. go (restored s) refl h)
  where
    go : (o : Option PositionMachine) → restored s ≡ o → ((t : PositionMachine) → Accepted s t → ⊥) → restored s ≡ none
    go none e h = e
    go (some t) e h = absurd (h t (restored-accepted s t e))
