-- The lines of an image of a machine that operations leave: each is a record whose text says its line, and a fresh machine takes them in order.
-- Assumes nothing.
use Rattle.std.proofs.Common.{◌≡◌, refl, sym, ap, ◌∙◌, subst, true, false, List, [], ◌∷◌, ◌++◌, map, ℕ, ◌<◌, ◌≤◌, arith, length, drop, eq-eqb}
use Rattle.std.proofs.lemmas.List.{map-append, length-map, drop-append-le}
use Rattle.std.proofs.Math.Option.{Option, some}
use Rattle.common.specs.All.{All}
use Rattle.common.specs.Limits.{max_roles, max_rules}
use Rattle.common.proofs.AllLaws.{all_left, all_right}
use Rattle.lexer.specs.Words.{same}
use Rattle.grammar.specs.AsRead.{Line}
use Rattle.grammar.specs.LineText.{line_text}
use Rattle.grammar.specs.Lines.{declares}
use Rattle.grammar.proofs.Language.{line_taken}
use Rattle.frame.specs.Text.{text_of}
use Rattle.frame.specs.Record.{line_byte}
use Rattle.frame.specs.Record.{Line as LineRecord}
use Rattle.frame.proofs.FrameLaws.{frame_exactly}
use Rattle.patterns.specs.Roles.{top_name, Role, is_held, Grown, grown_fresh, grown_more}
use Rattle.render.specs.Records.{line_record}
use Rattle.render.proofs.ReadBack.{record_first, record_read, record_framed}
use Rattle.intake.specs.Asked.{asks_role, asks_rule, is_rule, asked}
use Rattle.intake.specs.Machine.{names_of}
use Rattle.intake.specs.Rows.{SaysLine, RolePasses, RulePasses, takes_role, takes_rule}
use Rattle.intake.proofs.Rows.{asked_exactly}
use Rattle.book.specs.Names.{Name, Roles, Rule}
use Rattle.book.specs.MachineSteps.{PositionRule, PositionMachine, fresh_machine, start_number}
use Rattle.book.specs.Images.{in_order, role_line, rule_line, role_record}
use Rattle.book.specs.Restoring.{and_then, is_line, take_asked, take_line, take_lines}
use Rattle.book.specs.Accepted.{rules_of}
use Rattle.book.proofs.Decided.{RuleFits}
use Rattle.book.proofs.ImageLists.{order_length, take-append}
use Rattle.book.proofs.Lasting.{Readable, names_in, Ruled, ruled_none, ruled_more, rules-named, some-role}

-- A LINE RECORD

-- it has byte `L`
pub line-is : (l : Line) → is_line (line_record l) ≡ true
line-is l = eq-eqb _ line_byte (record_first line_byte (line_text l))

-- and its text says the line
line-said : (l : Line) → Readable l → declares l ≡ true → SaysLine (line_record l) l
line-said l h d =
    record {
      framed = (frame_exactly (line_record l) LineRecord).0 (record_framed h.text l h.says h.short);
      kind = d;
      says = ((line_taken (text_of (line_record l)) l).0 (record_read h.text l h.says h.short d)).0;
    }

-- THE LINES OF AN IMAGE, TAKEN

-- a rule just declared
abbrev pub begun : Rule → PositionRule
begun r = record { rule = r; positions = start_number }

-- a machine with some roles, and some rules just declared
abbrev pub bare : Roles → List Rule → PositionMachine
bare rs l = record { roles = rs; rules = map begun l }

-- its rules are those
pub bare_rules : (l : List Rule) → rules_of (map begun l) ≡ l
bare_rules [] = refl
bare_rules (r ∷ l) = ap (λ (x : List Rule). r ∷ x) (bare_rules l)

-- and so are their names
bare_names : (l : List Rule) → names_of (map begun l) ≡ names_in l
bare_names l = sym (rules-named (map begun l)) ∙ ap names_in (bare_rules l)

-- a role line of an image is taken
role-taken : (r : Role Name) (rs : Roles) → Readable (role_line r) → is_held same rs r.name ≡ false → is_held same rs r.parent ≡ true → length rs < max_roles
    → take_line (bare rs []) (role_record r) ≡ some (bare (r ∷ rs) [])
role-taken r rs w new par few =
    let k : RolePasses rs [] (role_record r) r.name r.parent = record { said = line-said (role_line r) w refl; free = record { no-role = new; no-rule = refl }; parent = par } in
    ap (take_asked (bare rs [])) ((asked_exactly rs [] (role_record r) (asks_role r.name r.parent)).1 (takes_role k few))

-- one record more
take_more : (t u v : PositionMachine) (ls : List (List ℕ)) (r : List ℕ) → take_lines t ls ≡ some u → take_line u r ≡ some v → take_lines t (ls ++ (r ∷ [])) ≡ some v
take_more t u v ls r h k =
    take-append ls (r ∷ []) t ∙ ap (λ (x : Option PositionMachine). and_then x (λ y. take_lines y (r ∷ []))) h ∙ ap (λ (x : Option PositionMachine). and_then x (λ y. take_lines y [])) k

-- the role lines are taken in order, by a fresh machine
pub roles-taken : {rs : Roles} → Grown same top_name rs → length rs ≤ max_roles → All (λ r. Readable (role_line r)) (drop 1 (in_order rs))
    → take_lines fresh_machine (map role_record (drop 1 (in_order rs))) ≡ some (bare rs [])
roles-taken grown_fresh few h = refl
roles-taken (grown_more {r = r} {rs = rs} new par g) few h =
    let o = order_length rs in
    let q = some-role g in
    let e : drop 1 (in_order (r ∷ rs)) ≡ drop 1 (in_order rs) ++ (r ∷ []) = drop-append-le 1 (in_order rs) (r ∷ []) (omega arith) in
    let p : All (λ x. Readable (role_line x)) (drop 1 (in_order rs) ++ (r ∷ [])) = subst (All (λ x. Readable (role_line x))) e h in
    ap (λ (x : Roles). take_lines fresh_machine (map role_record x)) e
    ∙ ap (take_lines fresh_machine) (map-append role_record (drop 1 (in_order rs)) (r ∷ []))
    ∙ take_more fresh_machine (bare rs []) (bare (r ∷ rs) []) (map role_record (drop 1 (in_order rs))) (role_record r)
    (roles-taken g (omega arith) (all_left (λ x. Readable (role_line x)) (drop 1 (in_order rs)) (r ∷ []) p))
    (role-taken r rs (all_right (λ x. Readable (role_line x)) (drop 1 (in_order rs)) (r ∷ []) p).0 new par (omega arith))

-- a rule line of an image is taken
rule-taken : (rs : Roles) (r : Rule) (l : List Rule) → RuleFits rs r → Readable (rule_line r) → is_held same rs r.name ≡ false → is_rule (names_in l) r.name ≡ false → length l < max_rules
    → take_line (bare rs l) (line_record (rule_line r)) ≡ some (bare rs (r ∷ l))
rule-taken rs r l f w a b few =
    let s : List ℕ = line_record (rule_line r) in
    let n = length-map l (λ (x : Rule). x.name) in
    let k : RulePasses rs (names_in l) s r = record { said = line-said (rule_line r) w refl; free = record { no-role = a; no-rule = b }; known = f.known; small = f.small } in
    ap (λ (ns : List Name). take_asked (bare rs l) (asked rs ns s)) (bare_names l)
    ∙ ap (take_asked (bare rs l)) ((asked_exactly rs (names_in l) s (asks_rule r)).1 (takes_rule k (omega arith)))

-- the rule lines are taken in order, by a machine with the roles alone
pub rules-taken : (rs : Roles) {l : List Rule} → Ruled rs l → length l ≤ max_rules → take_lines (bare rs []) (map (λ (r : Rule). line_record (rule_line r)) (in_order l)) ≡ some (bare rs l)
rules-taken rs ruled_none few = refl
rules-taken rs (ruled_more {r = r} {l = l} f w a b k) few =
    ap (take_lines (bare rs [])) (map-append (λ (x : Rule). line_record (rule_line x)) (in_order l) (r ∷ []))
    ∙ take_more (bare rs []) (bare rs l) (bare rs (r ∷ l)) (map (λ (x : Rule). line_record (rule_line x)) (in_order l)) (line_record (rule_line r))
    (rules-taken rs k (omega arith)) (rule-taken rs r l f w a b (omega arith))
