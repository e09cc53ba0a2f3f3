-- What becomes of a role line is what it asks.
-- Assumes nothing.
use Rattle.std.proofs.Math.Option.{some}
use Rattle.common.specs.Limits.{max_roles}
use Rattle.lexer.specs.Words.{same}
use Rattle.common.proofs.Bools.{true_not_false}
use Rattle.grammar.specs.AsRead.{role}
use Rattle.grammar.specs.Lines.{Says}
use Rattle.names.specs.Name.{packed}
use Rattle.std.proofs.Common.{Option, unwrap_or, ◌≤◌, arith, ◌≡◌, refl, sym, ap, ◌∙◌, subst, Bool, true, false, not, ◌||◌, List, ℕ, ◌<◌, ltb, length, ltb-true}
use Rattle.names.specs.Place.{place, found}
use Rattle.names.proofs.PlaceLaws.{found-below, found-place}
use Rattle.code.specs.Lines.{role_line_of}
use Rattle.code.specs.declared.lines.RoleLine.{RoleLine}
use Rattle.code.proofs.LineLaws.{RoleTold, role-told}
use Rattle.patterns.specs.Roles.{is_held}
use Rattle.follow.specs.State.{capped, parent_in, is_taken, join_role, declare_role}
use Rattle.follow.specs.declared.state.State.{State}
use Rattle.follow.specs.Declaring.{Declared}
use Rattle.follow.proofs.Steady.{role-steady}
use Rattle.intake.specs.Names.{Name}
use Rattle.intake.specs.Asked.{is_free, asked_line}
use Rattle.intake.specs.Machine.{PositionMachine, names_of}
use Rattle.intake.specs.Represents.{name_at, table_of, NameWord, Sized, Represents}
use Rattle.intake.specs.Declaring.{DeclaredAs, line_asked, RoleLineDeclared}
use Rattle.intake.proofs.Naming as naming
use Rattle.intake.proofs.Naming.{roles-capped, table_long}
use Rattle.intake.proofs.SaidNames.{said-names}
use Rattle.intake.proofs.TakenNames.{taken_is, held-is, roles-length}
use Rattle.intake.proofs.KeptRole.{kept-role}
use Rattle.intake.proofs.DeclareLaws.{refusing, taking_role}

-- a name that is free is no role's
free-held : (a b : Bool) → not (a || b) ≡ true → a ≡ false
free-held true b e = absurd (true_not_false false e refl)
free-held false b e = refl

module _ (f : State) (z : Sized f) (s : List ℕ) (l : RoleLine) (read : l ≡ role_line_of (table_of f.sheet) s) where
  module _ (t : PositionMachine) (rep : Represents f t) (w p : Name) (says : Says s (role w p)) where
    word : NameWord w
    word = (said-names s (role w p) says).0

    parent-word : NameWord p
    parent-word = (said-names s (role w p) says).1.0

    told : RoleTold (table_of f.sheet) w p l
    told = subst (RoleTold (table_of f.sheet) w p) (sym read) (role-told (table_of f.sheet) s w p says)

    name-is : l.name ≡ packed w
    name-is = told.name

    is-taken : is_taken f.sheet l.name ≡ not (is_free t.roles (names_of t.rules) w)
    is-taken = ap (is_taken f.sheet) name-is ∙ taken_is f z t rep w word

    -- how many roles are held
    count-is : capped max_roles f.sheet.role_count ≡ length (table_of f.sheet)
    count-is = roles-capped f.sheet rep.naming ∙ sym (table_long f.sheet rep.naming)

    abbrev at : ℕ
    at = parent_in f.sheet l

    is-held : ltb at (capped max_roles f.sheet.role_count) ≡ is_held same t.roles p
    is-held =
        let h : length (table_of f.sheet) ≤ capped max_roles f.sheet.role_count = omega (arith, count-is) in
        ap (λ (x : Option ℕ). ltb (unwrap_or x (capped max_roles f.sheet.role_count)) (capped max_roles f.sheet.role_count)) told.parent
        ∙ ap (ltb (unwrap_or (found (packed p) (table_of f.sheet)) (capped max_roles f.sheet.role_count))) count-is
        ∙ found-below (packed p) (table_of f.sheet) (capped max_roles f.sheet.role_count) h
        ∙ held-is f z t rep p parent-word

    has_room : ltb f.sheet.role_count max_roles ≡ ltb (length t.roles) max_roles
    has_room = ap (λ (x : ℕ). ltb x max_roles) (sym (roles-length f z t rep))

    abbrev Told : Type 0
    Told = DeclaredAs f t (line_asked t (some (role w p))) (declare_role f l)

    role-taken : is_free t.roles (names_of t.rules) w ≡ true → is_held same t.roles p ≡ true → ltb (length t.roles) max_roles ≡ true → Told
    unfolding asked_line declare_role is_free
    role-taken a b c =
        let below : at < f.sheet.role_count = subst (λ (x : ℕ). at < x) (roles-capped f.sheet rep.naming) (ltb-true _ _ (is-held ∙ b)) in
        let in_table : place (packed p) (table_of f.sheet) < length (table_of f.sheet) = ltb-true _ _ (held-is f z t rep p parent-word ∙ b) in
        let at-is : at ≡ place (packed p) (table_of f.sheet) =
        ap (λ (x : Option ℕ). unwrap_or x (capped max_roles f.sheet.role_count)) (told.parent ∙ found-place (packed p) (table_of f.sheet) in_table) in
        let parent : name_at f.sheet at ≡ p =
        ap (name_at f.sheet) at-is ∙ naming.place_is_lem f.sheet rep.naming p parent-word (subst (λ (x : ℕ). x < f.sheet.role_count) at-is below) in
        let free : is_held same t.roles w ≡ false = free-held (is_held same t.roles w) _ a in
        let kept = kept-role f z t rep w word at below (ltb-true _ _ (has_room ∙ c)) free in
        taking_role f t (line_asked t (some (role w p))) (declare_role f l) (join_role f l.name at) w word l.name name-is
        (rw (is-taken ∙ ap not a, is-held ∙ b, has_room ∙ c) refl)
        p
        (rw (a, b, c) refl)
        (rw (name-is, sym parent) kept)

    role-right : Told
    unfolding asked_line declare_role
    role-right = go (is_free t.roles (names_of t.rules) w) (is_held same t.roles p) (ltb (length t.roles) max_roles) refl refl refl
      where
        go : (a b c : Bool) → is_free t.roles (names_of t.rules) w ≡ a → is_held same t.roles p ≡ b → ltb (length t.roles) max_roles ≡ c → Told
        go false b c d e k = refusing f t (line_asked t (some (role w p))) (declare_role f l) 5 (rw d refl) (rw (is-taken ∙ ap not d) refl)
        go true false c d e k = refusing f t (line_asked t (some (role w p))) (declare_role f l) 6 (rw (d, e) refl) (rw (is-taken ∙ ap not d, is-held ∙ e) refl)
        go true true false d e k = refusing f t (line_asked t (some (role w p))) (declare_role f l) 8 (rw (d, e, k) refl) (rw (is-taken ∙ ap not d, is-held ∙ e, has_room ∙ k) refl)
        go true true true d e k = role-taken d e k

  pub role-declared : (r : Declared) → r ≡ declare_role f l → RoleLineDeclared f s r
  role-declared r e = rw e record { steady = role-steady f l; right = λ t rep k w p says. role-right t rep w p says }
