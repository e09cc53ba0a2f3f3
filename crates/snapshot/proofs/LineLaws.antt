-- Laws of one line of an image: what declaring it gives is what taking it gives, where a role line stands before every rule line.
-- Assumes nothing.
use Rattle.std.proofs.Common.{◌≡◌, refl, sym, ap, ◌∙◌, subst, Bool, true, false, List, ℕ, ◌≤◌, arith, leb, ltb, length, eq-eqb, ne_eqb}
use Rattle.std.proofs.Math.Option.{Option, none, some}
use Rattle.common.specs.Limits.{max_patterns, max_roles, max_rules}
use Rattle.lexer.specs.Words.{same}
use Rattle.grammar.specs.AsRead.{Line, role, rule, event}
use Rattle.grammar.specs.Names.{rule_names}
use Rattle.grammar.specs.Size.{size_past}
use Rattle.grammar.specs.Lines.{read_line}
use Rattle.frame.specs.Text.{text_of}
use Rattle.patterns.specs.Roles.{is_held, all_held}
use Rattle.common.specs.declared.refusals.Refusal as Why
use Rattle.std.specs.Prelude.{Result, Ok, Err}
use Rattle.follow.specs.State.{refuse}
use Rattle.follow.specs.declared.state.State.{State}
use Rattle.follow.specs.Declaring.{Declared}
use Rattle.intake.specs.Names.{Name, Roles}
use Rattle.intake.specs.Asked.{Asked, refused_by, asks_role, asks_rule, asks_event, is_free, check, asked_line, asked}
use Rattle.intake.specs.Machine.{PositionMachine, with_role, names_of, asked_of}
use Rattle.intake.specs.Represents.{name_at, table_of, roles_in, Represents}
use Rattle.intake.specs.Asking.{Asks}
use Rattle.intake.specs.Declaring.{DeclaredAs, line_asked, LineDeclared}
use Rattle.intake.specs.Requests.{Refusal, Line as LineKind, Event as EventKind, Request}
use Rattle.intake.proofs.AskLaws.{text-small}
use Rattle.intake.proofs.KindLaws.{by_refusal, by_line, by_event, asked-line}
use Rattle.intake.proofs.Rows.{Numbered}
use Rattle.intake.proofs.TakenNames.{roles-long, rules-long}
use Rattle.book.specs.Restoring.{take_asked}
use Rattle.snapshot.specs.Reading.{TakenAs, LineInOrder, LineTaken}

-- NUMBERS OF REFUSALS

-- a check refuses by a number of the table
check-numbered : (q : Bool) (n : ℕ) (a : Asked) → 2 ≤ n → n ≤ 8 → Numbered a → Numbered (check q n a)
check-numbered true n a h k x = x
check-numbered false n a h k x = (h, k)

-- so that no line is refused by 0
line-numbered : (rs : Roles) (ns : List Name) (l : Option Line) → Numbered (asked_line rs ns l)
unfolding asked_line
line-numbered rs ns none = (omega arith, omega arith)
line-numbered rs ns (some (role n p)) =
    check-numbered (is_free rs ns n) 5 _ (omega arith) (omega arith)
    (check-numbered (is_held same rs p) 6 _ (omega arith) (omega arith)
    (check-numbered (ltb (length rs) max_roles) 8 _ (omega arith) (omega arith) tt))
line-numbered rs ns (some (rule n p t x)) =
    check-numbered (is_free rs ns n) 5 _ (omega arith) (omega arith)
    (check-numbered (all_held same rs (rule_names p t x)) 6 _ (omega arith) (omega arith)
    (check-numbered (leb (size_past p) max_patterns) 7 _ (omega arith) (omega arith)
    (check-numbered (ltb (length ns) max_rules) 8 _ (omega arith) (omega arith) tt)))
line-numbered rs ns (some (event e)) = (omega arith, omega arith)

-- THE ORDER OF LINES

-- a state holds as many roles as the machine
roles-count : (f : State) (t : PositionMachine) → Represents f t → length t.roles ≡ f.sheet.role_count
roles-count f t rep = ap length rep.roles ∙ roles-long (name_at f.sheet) f.sheet.parents f.sheet.role_count

-- and as many rules
rules-count : (f : State) (t : PositionMachine) → Represents f t → length t.rules ≡ f.sheet.rule_count
rules-count f t rep = rules-long f f.sheet.rule_count t.rules rep.rules

-- what declaring a line gives: it is taken, and the state left represents the machine with it; or it is refused
abbrev DeclaredTo : Option PositionMachine → Declared → Type 0
DeclaredTo none d = d.number ≡ 0 → ⊥
DeclaredTo (some u) d = (d.number ≡ 0) × Represents d.state u

-- as the readers of images tell it
line-ok : (o : Option PositionMachine) (d : Declared) → d.number ≡ 0 → DeclaredTo o d → TakenAs o (Ok tt) d.state
line-ok none d z n = absurd (n z)
line-ok (some u) d z h = (refl, h.1)

module _ (f : State) (d : Declared) where
  -- a refusal's number is not 0
  not_taken : (n : ℕ) → 2 ≤ n → d ≡ refuse f n → d.number ≡ 0 → ⊥
  not_taken n h e z = let q : n ≡ 0 = sym (ap (λ (x : Declared). x.number) e) ∙ z in absurd (omega (arith, h, q))

  -- before every rule line, a line is taken as it is declared
  first_taken : (t : PositionMachine) → length t.rules ≡ 0 → (a : Asked) → Numbered a → DeclaredAs f t a d → DeclaredTo (take_asked t a) d
  first_taken t z (refused_by n) m y = not_taken n m.0 y
  first_taken t z (asks_role w p) m y = rw (eq-eqb (length t.rules) 0 z) (ap (λ (x : Declared). x.number) y.is, y.state)
  first_taken t z (asks_rule r) m y = (ap (λ (x : Declared). x.number) y.is, y.state)
  first_taken t z (asks_event e) m y = absurd y

  -- where no role joins, too
  same_taken : (t : PositionMachine) → Represents f t → d.state.sheet.role_count ≡ f.sheet.role_count → (a : Asked) → Numbered a → DeclaredAs f t a d → DeclaredTo (take_asked t a) d
  same_taken t rep z (refused_by n) m y = not_taken n m.0 y
  same_taken t rep z (asks_role w p) m y = absurd (omega (arith, z, roles-count f t rep, roles-count d.state (with_role t w p) y.state))
  same_taken t rep z (asks_rule r) m y = (ap (λ (x : Declared). x.number) y.is, y.state)
  same_taken t rep z (asks_event e) m y = absurd y

  -- a role line after a rule line is not taken
  late_refused : (t : PositionMachine) → Represents f t → (length t.rules ≡ 0 → ⊥) → (d.state.sheet.role_count ≡ f.sheet.role_count → ⊥) → (e : Why.Refusal) → (a : Asked) → DeclaredAs f t a d
      → TakenAs (take_asked t a) (Err e) d.state
  late_refused t rep some-rules other e (refused_by n) y = refl
  late_refused t rep some-rules other e (asks_role w p) y = rw (ne_eqb (length t.rules) 0 some-rules) refl
  late_refused t rep some-rules other e (asks_rule r) y = absurd (other (sym (roles-count d.state _ y.state) ∙ roles-count f t rep))
  late_refused t rep some-rules other e (asks_event v) y = absurd y

  module _ (s : List ℕ) (h : LineDeclared f s d) where
    -- what the machine is asked
    abbrev what : PositionMachine → Asked
    what t = line_asked t (read_line s)

    numbered : (t : PositionMachine) → Numbered (what t)
    numbered t = line-numbered t.roles (names_of t.rules) (read_line s)

    -- no rule yet, or no role more
    pub in_order_first : d.number ≡ 0 → f.sheet.rule_count ≡ 0 → LineInOrder f s (Ok tt) d.state
    in_order_first z q = record { right = λ t rep k. line-ok _ d z (first_taken t (rules-count f t rep ∙ q) (what t) (numbered t) (h.right t rep k)) }

    pub in_order_same : d.number ≡ 0 → d.state.sheet.role_count ≡ f.sheet.role_count → LineInOrder f s (Ok tt) d.state
    in_order_same z q = record { right = λ t rep k. line-ok _ d z (same_taken t rep q (what t) (numbered t) (h.right t rep k)) }

    -- a role after a rule
    pub in_order_late : (e : Why.Refusal) → (f.sheet.rule_count ≡ 0 → ⊥) → (d.state.sheet.role_count ≡ f.sheet.role_count → ⊥) → LineInOrder f s (Err e) d.state
    in_order_late e n z = record { right = λ t rep k. late_refused t rep (λ q. n (sym (rules-count f t rep) ∙ q)) z e (what t) (h.right t rep k) }

-- an answer that is another
pub taken-as : {f g : State} {s : List ℕ} {r q : Result Unit Why.Refusal} → r ≡ q → LineTaken f s q g → LineTaken f s r g
taken-as e h = rw e h

-- WHAT A RECORD ASKS

module _ (f : State) (s : List ℕ) (a : Request) (asks : Asks (table_of f.sheet) s a) where
  -- what the sheet's roles ask is what the machine is asked
  asked_of_lem : (t : PositionMachine) → Represents f t → (b : Asked) → ((ns : List Name) → asked (roles_in f.sheet) ns s ≡ b) → asked_of t s ≡ b
  asked_of_lem t rep b h = ap (λ (rs : Roles). asked rs (names_of t.rules) s) rep.roles ∙ h (names_of t.rules)

  -- a record that is refused is not taken
  pub line_turned : (e : Why.Refusal) → a.kind ≡ Refusal → LineTaken f s (Err e) f
  line_turned e k =
      record {
        right = λ t rep.
            subst (λ (b : Asked). TakenAs (take_asked t b) (Err e) f)
            (sym (asked_of_lem t rep (refused_by a.number) (by_refusal f.sheet s a (asks.right f.sheet rep.naming refl) k))) refl;
      }

  -- nor is an event
  pub event_turned : (e : Why.Refusal) → a.kind ≡ EventKind → LineTaken f s (Err e) f
  event_turned e k =
      record {
        right = λ t rep.
            let d = by_event f.sheet s a (asks.right f.sheet rep.naming refl) k in
            subst (λ (b : Asked). TakenAs (take_asked t b) (Err e) f) (sym (asked_of_lem t rep (asks_event d.0) d.2)) refl;
      }

  -- a line is taken by its text
  pub line_taken : a.kind ≡ LineKind → (r : Result Unit Why.Refusal) (g : State) → LineInOrder f (text_of s) r g → LineTaken f s r g
  line_taken e r g h =
      record {
        right = λ t rep.
            subst (λ (b : Asked). TakenAs (take_asked t b) r g)
            (sym (asked-line t.roles (names_of t.rules) s (by_line f.sheet s a (asks.right f.sheet rep.naming refl) e))) (h.right t rep (text-small s));
      }
