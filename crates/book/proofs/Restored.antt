-- The image of a machine that operations leave says that machine: what keeping writes, restoring reads.
-- Assumes nothing.
use Rattle.std.proofs.Common.{◌≡◌, refl, sym, ap, ap₂, ◌∙◌, subst, Bool, cond, List, [], ◌∷◌, ◌++◌, map, append_assoc, ℕ, ◌*◌, ◌/◌, ◌%◌, arith, length, drop, eq-eqb}
use mathlib.Core.List.{map-map}
use Rattle.std.proofs.Math.Option.{Option, none, some}
use Rattle.std.proofs.lemmas.List.{length-map}
use Rattle.common.specs.All.{All}
use Rattle.common.specs.Limits.{record_size}
use Rattle.common.proofs.AllLaws.{all_of, all_append, all_mapped}
use Rattle.grammar.specs.Size.{size_past}
use Rattle.grammar.specs.LineText.{line_text}
use Rattle.frame.specs.Record.{line_byte}
use Rattle.frame.specs.Records.{records_of}
use Rattle.positions.proofs.Lists.{cons_head, cons_tail}
use Rattle.render.specs.Records.{line_record}
use Rattle.render.proofs.ReadBack.{record_length}
use Rattle.book.specs.Names.{Roles, Rule}
use Rattle.book.specs.MachineSteps.{PositionRule, PositionMachine, fresh_machine}
use Rattle.book.specs.Images.{in_order, joined, role_line, rule_line, role_record, rule_record, marks_record, image_records, image_of}
use Rattle.book.specs.Restoring.{and_then, take_lines, rule_marks, with_marks, read_marks, marks_read, restored_from, restored}
use Rattle.book.specs.Accepted.{rules_of, Gives, AllGive, give_none, give_more}
use Rattle.book.proofs.Decided.{RuleFits}
use Rattle.book.proofs.ImageLists.{order_twice, order_map, Whole, joined_length, joined_cut, IsLine, NoLine, lines-first, others-last, take-append}
use Rattle.book.proofs.MarkRecords.{record_marks_exactly}
use Rattle.book.proofs.GivenRecords.{given_said, kept_give, gives_in_order, given_wholes, given_no_lines}
use Rattle.book.proofs.TakenLines.{line-is, bare, bare_rules, roles-taken, rules-taken}
use Rattle.book.proofs.Lasting.{Ruled, Within, Lasting, ruled_fits}

-- MARKS, READ

-- a rule's marks are read from a record that gives them
mark_read : (rs : Roles) (x : PositionRule) (s : List ℕ) → RuleFits rs x.rule → Within x → Gives x s → rule_marks x.rule s ≡ some x.positions
mark_read rs x s f h g = (record_marks_exactly x.rule.name (size_past x.rule.past) s x.positions).1 (given_said x s f.small h g)

-- all of them, by a machine with the same rules
marks_read_lem : (rs : Roles) (xs ys : List PositionRule) (ss : List (List ℕ)) → rules_of ys ≡ rules_of xs → All (λ x. RuleFits rs x.rule) xs → All Within xs → AllGive xs ss
    → read_marks ys ss ≡ some xs
marks_read_lem rs [] [] [] e f h give_none = refl
marks_read_lem rs [] [] (s ∷ ss) e f h g = elim g [ ]
marks_read_lem rs (x ∷ xs) (y ∷ ys) [] e f h g = elim g [ ]
marks_read_lem rs [] (y ∷ ys) ss e f h g = absurd (let z = ap length e in omega arith)
marks_read_lem rs (x ∷ xs) [] ss e f h g = absurd (let z = ap length e in omega arith)
marks_read_lem rs (x ∷ xs) (y ∷ ys) (s ∷ ss) e f h (give_more g gs) =
    ap (λ (r : Rule). with_marks r (rule_marks r s) (read_marks ys ss)) (cons_head e)
    ∙ ap₂ (λ (m : Option ℕ) (zs : Option (List PositionRule)). with_marks x.rule m zs) (mark_read rs x s f.0 h.0 g) (marks_read_lem rs xs ys ss (cons_tail e) f.1 h.1 gs)

-- a machine's marks, read by one with the same roles and rules, whatever its marks
pub marks-restored : (u t : PositionMachine) (ss : List (List ℕ)) → u.roles ≡ t.roles → rules_of u.rules ≡ rules_of t.rules → Ruled t.roles (rules_of t.rules) → All Within t.rules
    → AllGive (in_order t.rules) ss → marks_read u ss ≡ some t
marks-restored u t ss r e k w g =
    ap (λ (x : Option (List PositionRule)). and_then x (λ xs. some (record { roles = u.roles; rules = xs })))
    (marks_read_lem t.roles t.rules u.rules (in_order ss) e (ruled_fits t.roles t.rules k) w (subst (λ (l : List PositionRule). AllGive l (in_order ss)) (order_twice t.rules) (gives_in_order g)))
    ∙ ap (λ (x : Roles). some (record { roles = x; rules = t.rules })) r

-- WHOLE RECORDS

-- whole records in a row say what they say one by one
pub joined-restored : (rs : List (List ℕ)) → All Whole rs → restored (joined rs) ≡ restored_from rs
unfolding restored
joined-restored rs h =
    let n = joined_length rs h in
    let z : length (joined rs) % record_size ≡ 0 = omega arith in
    let q : length (joined rs) / record_size ≡ length rs = omega arith in
    ap₂ (λ (b : Bool) (k : ℕ). cond b (restored_from (records_of k (joined rs))) none) (eq-eqb (length (joined rs) % record_size) 0 z) q ∙ ap restored_from (joined_cut rs h)

-- first the lines are taken, and then the marks read
pub parts-restored : (ls ms : List (List ℕ)) → All IsLine ls → All NoLine ms → restored_from (ls ++ ms) ≡ and_then (take_lines fresh_machine ls) (λ u. marks_read u ms)
parts-restored ls ms h k = ap₂ (λ (us vs : List (List ℕ)). and_then (take_lines fresh_machine us) (λ u. marks_read u vs)) (lines-first ls ms h k) (others-last ls ms h k)

-- THE WHOLE IMAGE

module _ (t : PositionMachine) where
  -- the three parts of its image: role lines
  abbrev role_records : List (List ℕ)
  role_records = map role_record (drop 1 (in_order t.roles))

  -- rule lines
  abbrev rule_records : List (List ℕ)
  rule_records = map rule_record (in_order t.rules)

  -- and marks
  abbrev mark_records : List (List ℕ)
  mark_records = map marks_record (in_order t.rules)

  -- every record is whole
  pub all_whole : All Whole (image_records t)
  all_whole =
      all_append Whole role_records (rule_records ++ mark_records)
      (all_mapped role_record Whole (drop 1 (in_order t.roles)) (all_of (λ r. Whole (role_record r)) (λ r. record_length line_byte (line_text (role_line r))) (drop 1 (in_order t.roles))))
      (all_append Whole rule_records mark_records
      (all_mapped rule_record Whole (in_order t.rules) (all_of (λ x. Whole (rule_record x)) (λ x. record_length line_byte (line_text (rule_line x.rule))) (in_order t.rules)))
      (given_wholes (kept_give (in_order t.rules))))

  -- "records of 128 bytes again"
  pub image_length : length (image_of t) ≡ record_size * length (image_records t)
  image_length = joined_length (image_records t) all_whole

  -- "Keeping hands back how many records it wrote": an image is as many whole records
  pub image_count : length (image_of t) / record_size ≡ length (image_records t)
  image_count = let n = image_length in omega arith

  -- those of roles and rules are lines
  all_lines : All IsLine (role_records ++ rule_records)
  all_lines =
      all_append IsLine role_records rule_records
      (all_mapped role_record IsLine (drop 1 (in_order t.roles)) (all_of (λ r. IsLine (role_record r)) (λ r. line-is (role_line r)) (drop 1 (in_order t.roles))))
      (all_mapped rule_record IsLine (in_order t.rules) (all_of (λ x. IsLine (rule_record x)) (λ x. line-is (rule_line x.rule)) (in_order t.rules)))

  -- a rule's line is written of the rule alone
  rule-records : rule_records ≡ map (λ (r : Rule). line_record (rule_line r)) (in_order (rules_of t.rules))
  rule-records =
      sym (map-map (λ (r : Rule). line_record (rule_line r)) (λ (x : PositionRule). x.rule) (in_order t.rules))
      ∙ ap (map (λ (r : Rule). line_record (rule_line r))) (order_map (λ (x : PositionRule). x.rule) t.rules)

  module _ (s : Lasting t) where
    -- the machine with the rules just declared
    abbrev declared : PositionMachine
    declared = bare t.roles (rules_of t.rules)

    -- a fresh machine takes all its lines
    lines-taken : take_lines fresh_machine (role_records ++ rule_records) ≡ some declared
    lines-taken =
        let n = length-map t.rules (λ (x : PositionRule). x.rule) in
        take-append role_records rule_records fresh_machine
        ∙ ap (λ (x : Option PositionMachine). and_then x (λ u. take_lines u rule_records)) (roles-taken s.grown s.few-roles s.role-lines)
        ∙ ap (take_lines (bare t.roles [])) rule-records
        ∙ rules-taken t.roles s.ruled (omega (arith, s.few-rules))

    -- "Returning to an image replaces the monitor.": the image of a machine that operations leave says that machine.
    pub image_restored : restored (image_of t) ≡ some t
    image_restored =
        joined-restored (image_records t) all_whole
        ∙ ap restored_from (sym (append_assoc role_records rule_records mark_records))
        ∙ parts-restored (role_records ++ rule_records) mark_records all_lines (given_no_lines (kept_give (in_order t.rules)))
        ∙ ap (λ (x : Option PositionMachine). and_then x (λ u. marks_read u mark_records)) lines-taken
        ∙ marks-restored declared t mark_records refl (bare_rules (rules_of t.rules)) s.ruled s.within (kept_give (in_order t.rules))
