-- What holds of every machine that operations leave, and by which its image says it whole: a fresh machine has it, and every call keeps it.
-- Assumes nothing.
use Rattle.std.proofs.Common.{◌≡◌, refl, sym, ap, ap₂, ◌∙◌, subst, Bool, true, false, ◌||◌, List, [], ◌∷◌, map, ℕ, ◌<◌, ◌≤◌, arith, length, drop}
use mathlib.Core.List.{map-map}
use Rattle.std.proofs.lemmas.List.{length-map, drop-append-le}
use Rattle.common.specs.All.{All}
use Rattle.common.specs.Limits.{max_roles, max_rules}
use Rattle.common.proofs.AllLaws.{all_append, all_map, all_mapped}
use Rattle.common.proofs.Bools.{not-true, true_not_false}
use Rattle.lexer.specs.Words.{same}
use Rattle.lexer.proofs.KindLaws.{same_true}
use Rattle.lexer.proofs.SameLaws.{same_refl}
use Rattle.grammar.specs.AsRead.{Line, role}
use Rattle.grammar.specs.Size.{size_past}
use Rattle.grammar.specs.Valid.{IsName}
use Rattle.grammar.specs.Lines.{Says}
use Rattle.frame.specs.Text.{text_of}
use Rattle.frame.proofs.TextLaws.{text-length}
use Rattle.patterns.specs.Roles.{top_name, Role, is_held, Grown, grown_fresh, grown_more}
use Rattle.intake.specs.Asked.{is_rule}
use Rattle.intake.specs.Machine.{names_of}
use Rattle.intake.specs.Rows.{SaysLine}
use Rattle.intake.proofs.Numbers.{start-within, step-within}
use Rattle.chain.specs.Work.{committed, held, unfit, too_long}
use Rattle.book.specs.Names.{Name, Event, Roles, Rule, Duty}
use Rattle.book.specs.Decide.{Call, Decision, refused, new_role, new_rule, worked, duty_names}
use Rattle.book.specs.MachineSteps.{PositionRule, PositionMachine, fresh_machine, machine_duty, machine_decides, move_on, machine_next, machine_step}
use Rattle.book.specs.Session.{left}
use Rattle.book.specs.Images.{in_order, role_line, rule_line}
use Rattle.book.specs.Restoring.{marks_end}
use Rattle.book.specs.Accepted.{rules_of}
use Rattle.book.proofs.Decided.{RuleFits, fits-later, DutyFits, duty-fits, Good, good_role, good_rule, decide_good, role-named, rule_fits}
use Rattle.book.proofs.Agree.{fresh_sound}
use Rattle.book.proofs.ImageLists.{order_length}

-- a text of a record says the line: so it can be written and read back
pub record Readable (l : Line) : Type 0 where
  pub text : List ℕ
  pub short : length text ≤ 126
  pub says : Says text l

-- the names of some rules
abbrev pub names_in : List Rule → List Name
names_in l = map (λ (r : Rule). r.name) l

-- The rules: in the language, roles held, few patterns; their lines can be read back; each name is no role's and no earlier rule's.
pub data Ruled (rs : Roles) : List Rule → Type 0 where
  ruled_none : Ruled rs []
  ruled_more : {r : Rule} {l : List Rule} → RuleFits rs r → Readable (rule_line r) → is_held same rs r.name ≡ false → is_rule (names_in l) r.name ≡ false → Ruled rs l → Ruled rs (r ∷ l)

-- the marks of a rule are those that its past has
abbrev pub Within : PositionRule → Type 0
Within x = x.positions < marks_end (size_past x.rule.past)

-- What holds of a machine that operations leave.
pub record Lasting (t : PositionMachine) : Type 0 where
  pub grown : Grown same top_name t.roles  -- each role's name was new and its parent held when it joined
  pub named : All (λ r. IsName r.name) t.roles  -- names are names
  pub few-roles : length t.roles ≤ max_roles
  pub few-rules : length t.rules ≤ max_rules
  pub role-lines : All (λ r. Readable (role_line r)) (drop 1 (in_order t.roles))  -- top is the first
  pub ruled : Ruled t.roles (rules_of t.rules)
  pub within : All Within t.rules

-- NAMES

-- two names that are not the same, the other way round
same_swap : (a b : Name) → same a b ≡ false → same b a ≡ false
same_swap a b h = not-true (same b a) (λ e. true_not_false (same a b) (ap (same a) (same_true b a e) ∙ same_refl a) h)

-- neither of two tests holds
or-false : (a b : Bool) → (a || b) ≡ false → (a ≡ false) × (b ≡ false)
or-false true b h = absurd (true_not_false true refl h)
or-false false b h = (refl, h)

-- the names of the duties are those of the rules
pub duties_named : (xs : List PositionRule) → duty_names (map machine_duty xs) ≡ names_of xs
duties_named xs = map-map (λ (d : Duty). d.rule) machine_duty xs

-- and so are the names of the rules without their marks
pub rules-named : (xs : List PositionRule) → names_in (rules_of xs) ≡ names_of xs
rules-named xs = map-map (λ (r : Rule). r.name) (λ (x : PositionRule). x.rule) xs

-- a name that is free of the duties is free of the rules
free-again : (xs : List PositionRule) (n : Name) → is_rule (duty_names (map machine_duty xs)) n ≡ false → is_rule (names_in (rules_of xs)) n ≡ false
free-again xs n h = ap (λ (ns : List Name). is_rule ns n) (rules-named xs ∙ sym (duties_named xs)) ∙ h

-- RULES

-- a role joins whose name is no rule's
ruled_later : (r : Role Name) (rs : Roles) {l : List Rule} → is_rule (names_in l) r.name ≡ false → Ruled rs l → Ruled (r ∷ rs) l
ruled_later r rs h ruled_none = ruled_none
ruled_later r rs h (ruled_more {r = x} {l = l} f w a b k) =
    let q = or-false (same r.name x.name) (is_rule (names_in l) r.name) h in
    ruled_more (fits-later r rs x f) w (ap₂ (λ (u v : Bool). u || v) (same_swap r.name x.name q.0) a) b (ruled_later r rs q.1 k)

-- the rules are in the language, their roles held, their patterns few
pub ruled_fits : (rs : Roles) (xs : List PositionRule) → Ruled rs (rules_of xs) → All (λ x. RuleFits rs x.rule) xs
ruled_fits rs [] h = tt
ruled_fits rs (x ∷ xs) (ruled_more f w a b k) = (f, ruled_fits rs xs k)

-- A FRESH MACHINE

-- it has top alone
pub fresh_lasting : Lasting fresh_machine
fresh_lasting = record { grown = grown_fresh; named = fresh_sound.named; few-roles = omega arith; few-rules = omega arith; role-lines = tt; ruled = ruled_none; within = tt }

-- A CALL

-- top is among the roles
pub some-role : {rs : Roles} → Grown same top_name rs → 1 ≤ length rs
some-role grown_fresh = omega arith
some-role (grown_more h k g) = let q = some-role g in omega arith

-- a line that is taken was said by the text of a record
said-again : (s : List ℕ) (l : Line) → SaysLine s l → Readable l
said-again s l h = record { text = text_of s; short = omega (arith, text-length s h.framed.size); says = h.says }

-- one more role: its line stands last
lines_more : (r : Role Name) (rs : Roles) → Grown same top_name rs → Readable (role_line r) → All (λ x. Readable (role_line x)) (drop 1 (in_order rs))
    → All (λ x. Readable (role_line x)) (drop 1 (in_order (r ∷ rs)))
lines_more r rs g w h =
    let o = order_length rs in
    let q = some-role g in
    subst (All (λ x. Readable (role_line x))) (sym (drop-append-le 1 (in_order rs) (r ∷ []) (omega arith)))
    (all_append (λ x. Readable (role_line x)) (drop 1 (in_order rs)) (r ∷ []) h (w, tt))

-- an event moves every rule on to positions of its past
all_moved : (rs : Roles) (e : Event) (xs : List PositionRule) → All (λ x. RuleFits rs x.rule) xs → All Within (map (move_on rs e) xs)
all_moved rs e xs h =
    all_mapped (move_on rs e) Within xs
    (all_map (λ x. RuleFits rs x.rule) (λ x. Within (move_on rs e x)) (λ x f. step-within rs x.rule.past x.positions e f.small) xs h)

module _ (t : PositionMachine) (s : Lasting t) where
  -- its rules are in the language, their roles held, their patterns few
  fits : All (λ x. RuleFits t.roles x.rule) t.rules
  fits = ruled_fits t.roles t.rules s.ruled

  -- what a call decides leaves the machine in order
  machine_good : (c : Call) → Good t.roles (map machine_duty t.rules) c (machine_decides t c)
  machine_good c =
      decide_good t.roles (map machine_duty t.rules)
      (all_mapped machine_duty (DutyFits t.roles) t.rules
      (all_map (λ x. RuleFits t.roles x.rule) (λ x. DutyFits t.roles (machine_duty x)) (λ x h. duty-fits t.roles x.rule (machine_duty x).matched h) t.rules fits))
      c

  -- what is decided leaves a machine of which it holds
  next_lasting : (c : Call) (d : Decision) → Good t.roles (map machine_duty t.rules) c d → Lasting (machine_next t d)
  next_lasting c (refused n) g = s
  next_lasting c (new_role n p) (good_role k l) =
      let r : Role Name = record { name = n; parent = p } in
      record {
        grown = grown_more k.free.no-role k.parent s.grown;
        named = (role-named t.roles (duty_names (map machine_duty t.rules)) c.bytes n p k, s.named);
        few-roles = l;
        few-rules = s.few-rules;
        role-lines = lines_more r t.roles s.grown (said-again c.bytes (role n p) k.said) s.role-lines;
        ruled = ruled_later r t.roles (free-again t.rules n k.free.no-rule) s.ruled;
        within = s.within;
      }
  next_lasting c (new_rule r) (good_rule k l) =
      let q = length-map t.rules machine_duty in
      record {
        grown = s.grown;
        named = s.named;
        few-roles = s.few-roles;
        few-rules = omega arith;
        role-lines = s.role-lines;
        ruled =
            ruled_more (rule_fits t.roles (duty_names (map machine_duty t.rules)) c.bytes r k) (said-again c.bytes (rule_line r) k.said) k.free.no-role
            (free-again t.rules r.name k.free.no-rule) s.ruled;
        within = (start-within (size_past r.past), s.within);
      }
  next_lasting c (worked (committed e n)) g =
      let q = length-map t.rules (move_on t.roles e) in
      record {
        grown = s.grown;
        named = s.named;
        few-roles = s.few-roles;
        few-rules = omega (arith, s.few-rules);
        role-lines = s.role-lines;
        ruled = subst (Ruled t.roles) (sym (map-map (λ (x : PositionRule). x.rule) (move_on t.roles e) t.rules)) s.ruled;
        within = all_moved t.roles e t.rules fits;
      }
  next_lasting c (worked (held v n)) g = s
  next_lasting c (worked (unfit v n)) g = s
  next_lasting c (worked (too_long v)) g = s

  -- Every call keeps it.
  pub step_lasting : (c : Call) → Lasting (machine_step t c).0
  step_lasting c = next_lasting c (machine_decides t c) (machine_good c)

-- And so do any calls.
pub left_lasting : (cs : List Call) (t : PositionMachine) → Lasting t → Lasting (left machine_step t cs)
left_lasting [] t s = s
left_lasting (c ∷ cs) t s = left_lasting cs (machine_step t c).0 (step_lasting t s c)
