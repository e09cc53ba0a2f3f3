-- What declaring promises. Of any state: a refusal leaves it as it was. Of one that represents a machine: what becomes of the line is what it asks of that
-- machine, and the state left represents the machine with the declaration.
-- Assumes nothing.
use Rattle.std.specs.Prelude.{◌≡◌, List, ℕ, ◌≤◌, length}
use Rattle.std.proofs.Math.Option.{Option, some}
use Rattle.grammar.specs.AsRead.{Line, role, rule, Past, Pattern, Response}
use Rattle.grammar.specs.Lines.{Says, read_line}
use Rattle.names.specs.Name.{packed}
use Rattle.follow.specs.State.{refuse, taken, Unmoved}
use Rattle.follow.specs.declared.state.State.{State}
use Rattle.follow.specs.Declaring.{Declared}
use Rattle.intake.specs.Names.{Name}
use Rattle.intake.specs.Asked.{Asked, refused_by, asks_role, asks_rule, asks_event, asked_line}
use Rattle.intake.specs.Machine.{PositionMachine, with_role, with_rule, names_of}
use Rattle.intake.specs.Represents.{NameWord, Represents}

-- the name w is declared, and the state left represents the machine t
pub record Declares (w : Name) (t : PositionMachine) (r : Declared) : Type 0 where
  pub is : r ≡ taken (packed w) r.state
  pub word : NameWord w
  pub state : Represents r.state t

-- r is what becomes of a line that asks a of the machine t; a line asks for no event
abbrev pub DeclaredAs : State → PositionMachine → Asked → Declared → Type 0
DeclaredAs f t (refused_by n) r = r ≡ refuse f n
DeclaredAs f t (asks_role w p) r = Declares w (with_role t w p) r
DeclaredAs f t (asks_rule x) r = Declares x.name (with_rule t x) r
DeclaredAs f t (asks_event ws) r = ⊥

-- what the text of a line asks of the machine
abbrev pub line_asked : PositionMachine → Option Line → Asked
line_asked t l = asked_line t.roles (names_of t.rules) l

-- a role line
pub record RoleLineDeclared (f : State) (s : List ℕ) (r : Declared) : Type 0 where
  pub steady : Unmoved f r
  pub right : (t : PositionMachine) → Represents f t → length s ≤ 126 → (w p : Name) → Says s (role w p) → DeclaredAs f t (line_asked t (some (role w p))) r

-- a rule line
pub record RuleLineDeclared (f : State) (s : List ℕ) (r : Declared) : Type 0 where
  pub steady : Unmoved f r
  pub right : (t : PositionMachine) → Represents f t → length s ≤ 126 → (w : Name) (p : Past) (q : Pattern) (x : Response) → Says s (rule w p q x) → DeclaredAs f t (line_asked t (some (rule w p q x))) r

-- the text of any line, refusal 4 included
pub record LineDeclared (f : State) (s : List ℕ) (r : Declared) : Type 0 where
  pub steady : Unmoved f r
  pub right : (t : PositionMachine) → Represents f t → length s ≤ 126 → DeclaredAs f t (line_asked t (read_line s)) r
