-- What becomes of a line, by its kind.
-- Assumes nothing.
use Rattle.std.proofs.Math.Option.{Option, none, some}
use Rattle.common.proofs.Bools.{true_not_false}
use Rattle.grammar.specs.AsRead.{Line, role, rule, event}
use Rattle.grammar.specs.Lines.{read_line, kind_of_line}
use Rattle.std.proofs.Common.{Some, None, ◌≡◌, refl, sym, subst, false, List, ℕ, ◌≤◌, length}
use Rattle.std.proofs.Common as std
use Rattle.grammar.specs.declared.lines.LineKind.{LineKind}
use Rattle.grammar.specs.declared.lines.LineKind.TheVariants.{Role, Rule}
use Rattle.grammar.proofs.Language.{line_taken}
use Rattle.follow.specs.State.{refuse}
use Rattle.follow.specs.declared.state.State.{State}
use Rattle.follow.specs.Declaring.{Declared}
use Rattle.intake.specs.Asked.{asked_line}
use Rattle.intake.specs.Machine.{PositionMachine}
use Rattle.intake.specs.Represents.{Represents}
use Rattle.intake.specs.Declaring.{DeclaredAs, line_asked, RoleLineDeclared, RuleLineDeclared, LineDeclared}

abbrev is_role : std.Option LineKind → Type 0
is_role (Some Role) = Unit {0}
is_role (Some Rule) = ⊥
is_role None = ⊥

abbrev is_rule : std.Option LineKind → Type 0
is_rule (Some Role) = ⊥
is_rule (Some Rule) = Unit {0}
is_rule None = ⊥

abbrev is_neither : std.Option LineKind → Type 0
is_neither (Some Role) = ⊥
is_neither (Some Rule) = ⊥
is_neither None = Unit {0}

module _ (f : State) (s : List ℕ) (r : Declared) where
  abbrev Right : Option Line → Type 0
  Right o = (t : PositionMachine) → Represents f t → length s ≤ 126 → DeclaredAs f t (line_asked t o) r

  by_role : RoleLineDeclared f s r → (o : Option Line) → read_line s ≡ o → is_role (kind_of_line o) → Right o
  by_role h none e k = absurd k
  by_role h (some (role w p)) e k = λ t rep m. h.right t rep m w p ((line_taken s (role w p)).0 e).0
  by_role h (some (rule w p q x)) e k = absurd k
  by_role h (some (event ws)) e k = absurd k

  by_rule : RuleLineDeclared f s r → (o : Option Line) → read_line s ≡ o → is_rule (kind_of_line o) → Right o
  by_rule h none e k = absurd k
  by_rule h (some (role w p)) e k = absurd k
  by_rule h (some (rule w p q x)) e k = λ t rep m. h.right t rep m w p q x ((line_taken s (rule w p q x)).0 e).0
  by_rule h (some (event ws)) e k = absurd k

  pub line-role : kind_of_line (read_line s) ≡ Some Role → RoleLineDeclared f s r → LineDeclared f s r
  line-role e h = record { steady = h.steady; right = by_role h (read_line s) refl (subst is_role (sym e) tt) }

  pub line-rule : kind_of_line (read_line s) ≡ Some Rule → RuleLineDeclared f s r → LineDeclared f s r
  line-rule e h = record { steady = h.steady; right = by_rule h (read_line s) refl (subst is_rule (sym e) tt) }

module _ (f : State) (s : List ℕ) where
  by_neither : (o : Option Line) → read_line s ≡ o → is_neither (kind_of_line o) → (t : PositionMachine) → Represents f t → DeclaredAs f t (line_asked t o) (refuse f 4)
  unfolding asked_line
  by_neither none e k t rep = refl
  by_neither (some (role w p)) e k t rep = absurd k
  by_neither (some (rule w p q x)) e k t rep = absurd k
  by_neither (some (event ws)) e k t rep = absurd (true_not_false false ((line_taken s (event ws)).0 e).1 refl)

  -- row 4
  pub line_neither : (r : Declared) → kind_of_line (read_line s) ≡ None → r ≡ refuse f 4 → LineDeclared f s r
  line_neither r e h =
      rw h record { steady = λ h. refl; right = λ t rep m. by_neither (read_line s) refl (subst is_neither (sym e) tt) t rep }
