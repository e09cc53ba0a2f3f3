-- What becomes of a line, refused or taken, is what it asks.
-- Assumes nothing.
use Rattle.std.proofs.Common.{◌≡◌, refl, sym, ap, ◌∙◌, subst, ℕ}
use Rattle.names.specs.Name.{packed}
use Rattle.follow.specs.State.{refuse, taken}
use Rattle.follow.specs.declared.state.State.{State}
use Rattle.follow.specs.Declaring.{Declared}
use Rattle.intake.specs.Names.{Name, Rule}
use Rattle.intake.specs.Asked.{Asked, refused_by, asks_role, asks_rule}
use Rattle.intake.specs.Machine.{PositionMachine, with_role, with_rule}
use Rattle.intake.specs.Represents.{NameWord, Represents}
use Rattle.intake.specs.Declaring.{DeclaredAs}

module _ (f : State) (t : PositionMachine) (a : Asked) (c : Declared) where
  abbrev Told : Type 0
  Told = DeclaredAs f t a c

  -- row n
  pub refusing : (n : ℕ) → a ≡ refused_by n → c ≡ refuse f n → Told
  refusing n p q = subst (λ (x : Asked). DeclaredAs f t x c) (sym p) q

  module _ (g : State) (w : Name) (word : NameWord w) (name : ℕ) (named : name ≡ packed w) (q : c ≡ taken name g) where
    is : c ≡ taken (packed w) g
    is = q ∙ ap (λ (n : ℕ). taken n g) named

    pub taking_role : (p : Name) → a ≡ asks_role w p → Represents g (with_role t w p) → Told
    taking_role p e k =
        subst (λ (x : Asked). DeclaredAs f t x c) (sym e)
        (subst (λ (x : Declared). DeclaredAs f t (asks_role w p) x) (sym is) record { is = refl; word = word; state = k })

    pub taking_rule : (x : Rule) → x.name ≡ w → a ≡ asks_rule x → Represents g (with_rule t x) → Told
    taking_rule x n e k =
        subst (λ (y : Asked). DeclaredAs f t y c) (sym e)
        (subst (λ (y : Declared). DeclaredAs f t (asks_rule x) y) (sym is) record { is = ap (λ (v : Name). taken (packed v) g) (sym n); word = subst NameWord (sym n) word; state = k })
