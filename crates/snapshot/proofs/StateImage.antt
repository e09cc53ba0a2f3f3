-- The image of a state that represents a machine is that machine's.
-- Assumes nothing.
use Rattle.std.proofs.Common.{◌≡◌, refl, sym, ap, ap₂, ◌∙◌, List, [], ◌∷◌, ◌++◌, map, append_assoc, append-nil, ℕ, zero, suc, ◌-◌, arith, length, drop, get_or}
use Rattle.std.proofs.lemmas.List.{map-append, drop-append-le}
use Rattle.common.specs.Limits.{max_rules}
use Rattle.names.specs.Unpacked.{unpacked}
use Rattle.names.proofs.UnpackedLaws.{unpacked-name}
use Rattle.grammar.specs.Valid.{ValidResponse, ValidLine}
use Rattle.frame.specs.Record.{line_byte}
use Rattle.patterns.specs.Roles.{Role}
use Rattle.patterns.specs.Table.{roles_of}
use Rattle.follow.specs.Rows.{row_at, code_of}
use Rattle.follow.specs.declared.state.State.{State}
use Rattle.follow.specs.declared.state.Sheet.{Sheet}
use Rattle.follow.proofs.CappedLaws.{capped_small}
use Rattle.render.specs.Records.{text_record}
use Rattle.render.proofs.ReadBack.{rule-text}
use Rattle.intake.specs.Machine.{PositionRule, PositionMachine}
use Rattle.intake.specs.Represents.{name_at, PositionRuleIs, Rules, rules-none, rules-more, Represents}
use Rattle.intake.proofs.Naming.{roles-capped}
use Rattle.intake.proofs.TakenNames.{roles-long}
use Rattle.book.specs.Names.{Name, Roles}
use Rattle.book.specs.Images.{in_order, joined, digits, mark_record, role_record, rule_record, marks_record, image_of}
use Rattle.book.proofs.ImageLists.{order_length}
use Rattle.snapshot.specs.Written.{first_of, role_at, rule_at, marks_at, image_from, roles_after_top, rules_in, state_image}

-- RECORDS IN A ROW

joined-append : (u v : List (List ℕ)) → joined (u ++ v) ≡ joined u ++ joined v
joined-append [] v = refl
joined-append (r ∷ u) v = ap (λ (x : List ℕ). r ++ x) (joined-append u v) ∙ sym (append_assoc r (joined u) (joined v))

-- one record more at the end
joined_end : (u : List (List ℕ)) (r : List ℕ) → joined (u ++ (r ∷ [])) ≡ joined u ++ r
joined_end u r = joined-append u (r ∷ []) ∙ ap (λ (x : List ℕ). joined u ++ x) (append-nil r)

-- ROLES

module _ (s : Sheet) where
  abbrev roles_up_to : ℕ → Roles
  roles_up_to n = roles_of (name_at s) s.parents n

  -- "the role lines in declared order without top"
  roles-written : (n : ℕ) → first_of (role_at s.names s.parents) n ≡ joined (map role_record (drop 1 (in_order (roles_up_to (suc n)))))
  roles-written zero = refl
  roles-written (suc n) =
      let l : Roles = in_order (roles_up_to (suc n)) in
      let r : Role Name = record { name = name_at s (suc n); parent = name_at s (get_or s.parents (suc n) 0) } in
      let k : length l ≡ suc n = order_length (roles_up_to (suc n)) ∙ roles-long (name_at s) s.parents (suc n) in
      let d : drop 1 (l ++ (r ∷ [])) ≡ drop 1 l ++ (r ∷ []) = drop-append-le 1 l (r ∷ []) (omega arith) in
      ap (λ (x : List ℕ). x ++ role_record r) (roles-written n)
      ∙ sym (ap (λ (x : Roles). joined (map role_record x)) d ∙ ap joined (map-append role_record (drop 1 l) (r ∷ [])) ∙ joined_end (map role_record (drop 1 l)) (role_record r))

-- RULES

module _ (f : State) where
  -- records by the rules' places are records by the rules, in declared order
  rules-written : (h : ℕ → List ℕ) (g : PositionRule → List ℕ) → ((i : ℕ) (x : PositionRule) → PositionRuleIs f i x → h i ≡ g x)
      → (n : ℕ) (l : List PositionRule) → Rules f n l → first_of h n ≡ joined (map g (in_order l))
  rules-written h g e zero (x ∷ l) x3 = elim x3 [ ]
  rules-written h g e (suc n) [] x3 = elim x3 [ ]
  rules-written h g e zero [] rules-none = refl
  rules-written h g e (suc n) (x ∷ l) (rules-more is rest) =
      ap₂ (λ (u v : List ℕ). u ++ v) (rules-written h g e n l rest) (e n x is)
      ∙ sym (ap joined (map-append g (in_order l) (x ∷ [])) ∙ joined_end (map g (in_order l)) (g x))

  name-is : (i : ℕ) (x : PositionRule) → PositionRuleIs f i x → unpacked (get_or f.sheet.rule_names i 0) ≡ x.rule.name
  name-is i x is = let r = is.rule in ap unpacked r.named ∙ unpacked-name x.rule.name r.word.name r.word.wordy

  -- a rule's code is written as its line
  rule-is : (i : ℕ) (x : PositionRule) → PositionRuleIs f i x → rule_at f.sheet.names f.sheet.rule_names f.sheet.rows i ≡ rule_record x
  unfolding ValidLine
  rule-is i x is =
      let r = is.rule in
      let t = r.tree in
      let v : ValidResponse x.rule.response = r.said.says.valid.1.1.1 in
      rw (r.past, r.trigger, r.response)
      (ap (text_record line_byte)
      (rule-text f.sheet.names (get_or f.sheet.rule_names i 0) (code_of (row_at f.sheet.rows i)) x.rule.name t.past t.trigger t.response (name-is i x is) r.keeps.spelled (rw r.response at v)))

  -- and its marks as its own
  marks_are : (i : ℕ) (x : PositionRule) → PositionRuleIs f i x → marks_at f.sheet.rule_names f.positions i ≡ marks_record x
  marks_are i x is = ap₂ (mark_record digits) (name-is i x is) is.positions

-- THE IMAGE

module _ (f : State) (t : PositionMachine) (rep : Represents f t) where
  roles-same : first_of (role_at f.sheet.names f.sheet.parents) (roles_after_top f) ≡ joined (map role_record (drop 1 (in_order t.roles)))
  roles-same =
      let s : Sheet = f.sheet in
      let n : roles_after_top f ≡ s.role_count - 1 = ap (λ (k : ℕ). k - 1) (roles-capped s rep.naming) in
      let e : suc (s.role_count - 1) ≡ s.role_count = let h = rep.naming.some in omega arith in
      ap (first_of (role_at s.names s.parents)) n
      ∙ roles-written s (s.role_count - 1)
      ∙ ap (λ (rs : Roles). joined (map role_record (drop 1 (in_order rs)))) (ap (roles_up_to s) e ∙ sym rep.roles)

  -- of some records for each rule
  rules-same : (h : ℕ → List ℕ) (g : PositionRule → List ℕ) → ((i : ℕ) (x : PositionRule) → PositionRuleIs f i x → h i ≡ g x) → first_of h (rules_in f) ≡ joined (map g (in_order t.rules))
  rules-same h g e = ap (first_of h) (capped_small max_rules f.sheet.rule_count rep.few) ∙ rules-written f h g e f.sheet.rule_count t.rules rep.rules

  -- What keeping writes of a state is the image of the machine that it represents.
  pub image_of_state : state_image f ≡ image_of t
  unfolding image_from
  image_of_state =
      let a = map role_record (drop 1 (in_order t.roles)) in
      let b = map rule_record (in_order t.rules) in
      let c = map marks_record (in_order t.rules) in
      let rules = rules-same (rule_at f.sheet.names f.sheet.rule_names f.sheet.rows) rule_record (rule-is f) in
      let marks = rules-same (marks_at f.sheet.rule_names f.positions) marks_record (marks_are f) in
      ap₂ (λ (x y : List ℕ). x ++ y) roles-same (ap₂ (λ (x y : List ℕ). x ++ y) rules marks) ∙ sym (joined-append a (b ++ c) ∙ ap (λ (x : List ℕ). joined a ++ x) (joined-append b c))
