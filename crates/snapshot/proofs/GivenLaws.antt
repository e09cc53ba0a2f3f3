-- Laws of the marks that an image gives: rule by rule they are what its records say, the last rule first, and the state with them represents the machine with them.
-- Assumes nothing.
use Rattle.std.proofs.Common.{◌≡◌, refl, sym, ap, ap₂, ◌∙◌, subst, false, List, [], ◌∷◌, ◌++◌, ⊎_elim, ℕ, zero, suc, ◌+◌, ◌*◌, ◌/◌, ◌<◌, arith, length, take, drop, get_or, drop-drop}
use Rattle.std.proofs.Math.Option.{Option, none, some}
use Rattle.names.specs.Unpacked.{unpacked}
use Rattle.names.proofs.UnpackedLaws.{unpacked-name}
use Rattle.grammar.specs.Size.{size_past}
use Rattle.grammar.proofs.RenameLaws.{size-map}
use Rattle.frame.specs.Records.{records_of}
use Rattle.code.specs.Trees.{code_rule, code_tail}
use Rattle.code.specs.Count.{patterns_from}
use Rattle.code.proofs.CountLaws.{count-right}
use Rattle.patterns.proofs.AboveLaws.{split}
use Rattle.follow.specs.Rows.{row_at, code_of}
use Rattle.follow.specs.declared.state.Sheet.{Sheet}
use Rattle.follow.specs.declared.state.State.{State}
use Rattle.intake.specs.Names.{Rule}
use Rattle.intake.specs.Machine.{PositionRule, PositionMachine}
use Rattle.intake.specs.Represents.{name_at, rule_name_at, RuleIs, Rules, rules-none, rules-more, Represents}
use Rattle.intake.proofs.TakenNames.{rules-long}
use Rattle.book.specs.Images.{in_order}
use Rattle.book.specs.Restoring.{and_then, record_marks, rule_marks, with_marks, read_marks, marks_read}
use Rattle.book.proofs.ImageLists.{order_twice, order_length}
use Rattle.book.proofs.MarkRecords.{said-within, record-said}
use Rattle.std.specs.Prelude.{Result, Ok, Err, Some, None, ok_or}
use Rattle.std.specs.Prelude.{Option as Given}
use Rattle.common.specs.declared.refusals.Refusal as Why
use Rattle.snapshot.specs.Reading.{mark_at, MarksTaken, records_in, TakenAs, MarksGiven}

-- RECORDS, THE LAST FIRST

-- as many as are asked for
records-count : (n : ℕ) (s : List ℕ) → length (records_of n s) ≡ n
records-count zero s = refl
records-count (suc n) s = ap suc (records-count n (drop 128 s))

-- record n is the last of n + 1
records-last : (n : ℕ) (s : List ℕ) → records_of (suc n) s ≡ records_of n s ++ (row_at s n ∷ [])
unfolding row_at
records-last zero s = refl
records-last (suc n) s =
    let e : 128 + n * 128 ≡ suc n * 128 = omega arith in
    ap (λ (l : List (List ℕ)). take 128 s ∷ l)
    (records-last n (drop 128 s) ∙ ap (λ (r : List ℕ). records_of n (drop 128 s) ++ (take 128 r ∷ [])) (drop-drop (n * 128) 128 s ∙ ap (λ (j : ℕ). drop j s) e))

-- so that it stands first in the other order
records_back : (n : ℕ) (s : List ℕ) → in_order (records_of (suc n) s) ≡ row_at s n ∷ in_order (records_of n s)
records_back n s =
    ap in_order (records-last n s ∙ ap (λ (l : List (List ℕ)). l ++ (row_at s n ∷ [])) (sym (order_twice (records_of n s)))) ∙ order_twice (row_at s n ∷ in_order (records_of n s))

-- ONE RULE

-- the code of a rule tells how many patterns its past has
rule-size : (s : Sheet) (i : ℕ) (r : Rule) → RuleIs s i r → patterns_from false (code_of (row_at s.rows i)) ≡ size_past r.past
unfolding code_rule code_tail
rule-size s i r x = count-right _ x.tree.past _ x.keeps.spelled ∙ sym (ap size_past x.past ∙ size-map (name_at s) x.tree.past)

-- and its packed name is its name
rule-name : (s : Sheet) (i : ℕ) (r : Rule) → RuleIs s i r → rule_name_at s i ≡ r.name
rule-name s i r x = ap unpacked x.named ∙ unpacked-name r.name x.word.name x.word.wordy

-- what a record says of rule i of the sheet is what it says of the rule
mark-is : (s : Sheet) (i : ℕ) (r : Rule) (b : List ℕ) → RuleIs s i r → mark_at s.rule_names s.rows b i ≡ rule_marks r (row_at b i)
unfolding mark_at
mark-is s i r b x = ap₂ (λ w n. record_marks w n (row_at b i)) (rule-name s i r x) (rule-size s i r x)

-- a rule without marks, or others without, is none
with_none : (r : Rule) (o : Option ℕ) → with_marks r o none ≡ none
with_none r none = refl
with_none r (some m) = refl

-- ALL RULES

-- as many records as rules, or none
marks_uneven : (l : List PositionRule) (ss : List (List ℕ)) → (length l ≡ length ss → ⊥) → read_marks l ss ≡ none
marks_uneven [] [] n = absurd (n refl)
marks_uneven [] (s ∷ ss) n = refl
marks_uneven (x ∷ l) [] n = refl
marks_uneven (x ∷ l) (s ∷ ss) n = ap (with_marks x.rule (rule_marks x.rule s)) (marks_uneven l ss (λ e. n (ap suc e))) ∙ with_none x.rule (rule_marks x.rule s)

-- the machine with the rules read
abbrev with_rules : PositionMachine → List PositionRule → Option PositionMachine
with_rules t xs = some (record { roles = t.roles; rules = xs })

-- "whose `M` records don't name each rule once": more or fewer records than rules
pub given_uneven : (f : State) (s : List ℕ) (d : Why.Refusal) → (length s / 128 ≡ f.sheet.rule_count → ⊥) → MarksGiven f s (Err d) f
given_uneven f s d n =
    record {
      right = λ t rep.
          let a = order_length (records_in s) in
          let b = records-count (length s / 128) s in
          let c = rules-long f f.sheet.rule_count t.rules rep.rules in
          let e : read_marks t.rules (in_order (records_in s)) ≡ none = marks_uneven t.rules (in_order (records_in s)) (λ q. n (sym b ∙ sym a ∙ sym q ∙ c)) in
          subst (λ (o : Option (List PositionRule)). TakenAs (and_then o (with_rules t)) (Err d) f) (sym e) refl;
    }

module _ (f : State) (s after : List ℕ) where
  -- the state with the marks
  abbrev given : State
  given = record { sheet = f.sheet; positions = after }

  -- what record i says of rule i
  abbrev mark : ℕ → Option ℕ
  mark i = mark_at f.sheet.rule_names f.sheet.rows s i

  -- every record gives marks: the rules with them
  marks-some : (k : ℕ) (l : List PositionRule) → Rules f k l → ((i : ℕ) → i < k → mark i ≡ some (get_or after i 0))
      → (xs : List PositionRule) × (read_marks l (in_order (records_of k s)) ≡ some xs) × Rules given k xs
  marks-some zero (x ∷ l) x5 h = elim x5 [ ]
  marks-some (suc n) [] x4 h = elim x4 [ ]
  marks-some zero [] rules-none h = ([], refl, rules-none)
  marks-some (suc n) (x ∷ l) (rules-more y ys) h =
      let r = marks-some n l ys (λ i m. h i (omega arith)) in
      let e : rule_marks x.rule (row_at s n) ≡ some (get_or after n 0) = sym (mark-is f.sheet n x.rule s y.rule) ∙ h n (omega arith) in
      let w = said-within (record-said x.rule.name (size_past x.rule.past) (row_at s n) (get_or after n 0) e) in (
        record { rule = x.rule; positions = get_or after n 0 } ∷ r.0,
        ap (read_marks (x ∷ l)) (records_back n s) ∙ ap₂ (with_marks x.rule) e r.1,
        rules-more (record { rule = y.rule; positions = refl; within = w }) r.2,
      )

  -- a record gives none
  marks-none : (k : ℕ) (l : List PositionRule) → Rules f k l → (i : ℕ) → i < k → mark i ≡ none → read_marks l (in_order (records_of k s)) ≡ none
  marks-none zero (x ∷ l) x7 i h e = elim x7 [ ]
  marks-none (suc n) [] x5 i h e = elim x5 [ ]
  marks-none zero [] rules-none i h e = absurd (omega arith)
  marks-none (suc n) (x ∷ l) (rules-more y ys) i h e =
      ap (read_marks (x ∷ l)) (records_back n s)
      ∙ ⊎_elim
      (λ m. ap (with_marks x.rule (rule_marks x.rule (row_at s n))) (marks-none n l ys i m e) ∙ with_none x.rule (rule_marks x.rule (row_at s n)))
      (λ q. ap (λ (o : Option ℕ). with_marks x.rule o (read_marks l (in_order (records_of n s)))) (sym (mark-is f.sheet n x.rule s y.rule) ∙ sym (ap mark q) ∙ e))
      (split i n (omega arith))

  -- as many records as rules: the state with the marks read, or none
  pub given_marks : (o : Given Unit) (d : Why.Refusal) → length f.positions ≡ 32 → length s / 128 ≡ f.sheet.rule_count → MarksTaken mark f.sheet.rule_count f.positions after o
      → MarksGiven f s (ok_or o d) given
  given_marks o d long even h = record { right = λ t rep. go t rep o h }
    where
      -- the records are as many as the rules
      read : (t : PositionMachine) (x : Option (List PositionRule)) (r : Result Unit Why.Refusal) → read_marks t.rules (in_order (records_of f.sheet.rule_count s)) ≡ x
          → TakenAs (and_then x (with_rules t)) r given → TakenAs (marks_read t (records_in s)) r given
      read t x r e a =
          subst (λ (y : Option (List PositionRule)). TakenAs (and_then y (with_rules t)) r given)
          (sym (ap (λ (k : ℕ). read_marks t.rules (in_order (records_of k s))) even ∙ e)) a

      go : (t : PositionMachine) → Represents f t → (o : Given Unit) → MarksTaken mark f.sheet.rule_count f.positions after o → TakenAs (marks_read t (records_in s)) (ok_or o d) given
      go t rep (Some u) m =
          let r = marks-some f.sheet.rule_count t.rules rep.rules (m.taken refl) in
          read t (some r.0) (Ok u) r.1 (refl, record { naming = rep.naming; few = rep.few; roles = rep.roles; rules = r.2 })
      go t rep None m =
          let w = m.turned_away (omega (arith, rep.few, long)) refl in
          read t none (Err d) (marks-none f.sheet.rule_count t.rules rep.rules w.0 w.1 w.2) refl
