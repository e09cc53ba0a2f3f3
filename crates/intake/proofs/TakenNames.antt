-- The state's name checks are the machine's: a name is taken, or a role held, in the one exactly where it is in the other.
-- Assumes nothing.
use Rattle.std.proofs.Common.{◌≡◌, refl, sym, ap, ap₂, ◌∙◌, subst, Bool, true, false, not, ◌&&◌, ◌||◌, List, [], ◌∷◌, ℕ, zero, suc, ◌<◌, ◌≤◌, arith, eqb, length, get_or, eq-eqb, eqb-true}
use Rattle.std.proofs.lemmas.List.{length-map}
use Rattle.lexer.specs.Words.{same}
use Rattle.common.proofs.Bools.{and_left, and_right, not-not, same_test}
use Rattle.lexer.proofs.KindLaws.{same_true}
use Rattle.lexer.proofs.SameLaws.{same_refl}
use Rattle.names.specs.Name.{packed}
use Rattle.names.specs.Place.{held}
use Rattle.code.specs.Code.{id_of, lacks}
use Rattle.code.proofs.IdLaws.{id_tells}
use Rattle.common.specs.All.{All}
use Rattle.patterns.specs.Roles.{is_held, all_held}
use Rattle.patterns.specs.Table.{roles_of}
use Rattle.follow.specs.State.{is_named, taken_in, is_taken}
use Rattle.follow.specs.declared.state.Sheet.{Sheet}
use Rattle.follow.specs.declared.state.State.{State}
use Rattle.follow.proofs.StateLaws.{named_none, named_more}
use Rattle.intake.specs.Names.{Name, Roles}
use Rattle.intake.specs.Asked.{is_rule, is_free}
use Rattle.intake.specs.Machine.{PositionMachine, PositionRule, names_of}
use Rattle.intake.specs.Represents.{name_at, table_of, roles_in, NameWord, Sized, Naming, Rules, rules-none, rules-more, Represents}
use Rattle.intake.proofs.Naming as naming
use Rattle.intake.proofs.Naming.{word_same}

-- as many roles as are held
pub roles-long : (nm : ℕ → Name) (ps : List ℕ) (n : ℕ) → length (roles_of nm ps n) ≡ n
roles-long nm ps zero = refl
roles-long nm ps (suc n) = ap suc (roles-long nm ps n)

-- as many rules as are kept
pub rules-long : (f : State) (k : ℕ) (l : List PositionRule) → Rules f k l → length l ≡ k
rules-long f zero [] rules-none = refl
rules-long f (suc k) (r ∷ l) (rules-more x xs) = ap suc (rules-long f k l xs)
rules-long f zero (r ∷ l) x'' = elim x'' [ ]
rules-long f (suc k) [] x3 = elim x3 [ ]

not_both : (a b : Bool) → (not a || not b) ≡ not (a && b)
not_both true b = refl
not_both false b = refl

module _ (s : Sheet) (n : Naming s) where
  -- row 6
  pub lacks_in : (ws : List Name) → All NameWord ws → lacks (table_of s) ws ≡ not (all_held same (roles_in s) ws)
  unfolding lacks
  lacks_in [] a = refl
  lacks_in (w ∷ ws) a =
      ap₂ (λ (p q : Bool). p || q) (id_tells (table_of s) w (naming.table_few s n) ∙ ap not (naming.held-is s n w a.0)) (lacks_in ws a.1) ∙ not_both (is_held same (roles_in s) w) (all_held same (roles_in s) ws)

  -- the ids of names that are held
  abbrev pub Found : Name → Type 0
  Found w = (id_of (table_of s) w < s.role_count) × (name_at s (id_of (table_of s) w) ≡ w)

  pub found_in : (ws : List Name) → All NameWord ws → all_held same (roles_in s) ws ≡ true → All Found ws
  found_in [] a e = tt
  found_in (w ∷ ws) a e = (
    naming.id_is s n w a.0 (naming.held-is s n w a.0 ∙ and_left (is_held same (roles_in s) w) (all_held same (roles_in s) ws) e),
    found_in ws a.1 (and_right (is_held same (roles_in s) w) (all_held same (roles_in s) ws) e),
  )

module _ (f : State) (z : Sized f) (t : PositionMachine) (rep : Represents f t) where
  abbrev n : Naming f.sheet
  n = rep.naming

  abbrev table : List ℕ
  table = table_of f.sheet

  pub roles-length : length t.roles ≡ f.sheet.role_count
  roles-length = ap length rep.roles ∙ roles-long (name_at f.sheet) f.sheet.parents f.sheet.role_count

  pub rules-length : length (names_of t.rules) ≡ f.sheet.rule_count
  rules-length = length-map t.rules (λ x. x.rule.name) ∙ rules-long f f.sheet.rule_count t.rules rep.rules

  pub held-is : (w : Name) → NameWord w → held table w ≡ is_held same t.roles w
  held-is w a = naming.held-is f.sheet n w a ∙ ap (λ (rs : Roles). is_held same rs w) (sym rep.roles)

  rule-named : (k : ℕ) (l : List PositionRule) (w : Name) → NameWord w → k ≤ length f.sheet.rule_names → Rules f k l → is_named k f.sheet.rule_names (packed w) ≡ is_rule (names_of l) w
  rule-named zero [] w a m rules-none = named_none f.sheet.rule_names (packed w)
  rule-named zero (r ∷ l) w a m x6 = elim x6 [ ]
  rule-named (suc k) [] w a m x5 = elim x5 [ ]
  rule-named (suc k) (r ∷ l) w a m (rules-more x xs) =
      named_more f.sheet.rule_names (packed w) k m ∙ ap₂ (λ (p q : Bool). p || q) (same_test _ _ (down, up)) (rule-named k l w a (omega arith) xs)
    where
      down : eqb (get_or f.sheet.rule_names k 0) (packed w) ≡ true → same w r.rule.name ≡ true
      down e =
          let q : r.rule.name ≡ w = word_same r.rule.name w x.rule.word a (sym x.rule.named ∙ eqb-true (get_or f.sheet.rule_names k 0) (packed w) e) in
          subst (λ (v : Name). same w v ≡ true) (sym q) (same_refl w)

      up : same w r.rule.name ≡ true → eqb (get_or f.sheet.rule_names k 0) (packed w) ≡ true
      up e = eq-eqb (get_or f.sheet.rule_names k 0) (packed w) (x.rule.named ∙ ap packed (sym (same_true w r.rule.name e)))

  -- row 5
  pub taken_is : (w : Name) → NameWord w → is_taken f.sheet (packed w) ≡ not (is_free t.roles (names_of t.rules) w)
  unfolding taken_in is_free is_named
  taken_is w a =
      ap₂ (λ (p q : Bool). p || q) (held-is w a) (rule-named f.sheet.rule_count t.rules w a (omega (arith, rep.few, z.rule-names)) rep.rules)
      ∙ not-not (is_held same t.roles w || is_rule (names_of t.rules) w)

  -- row 6
  pub lacks-is : (ws : List Name) → All NameWord ws → lacks table ws ≡ not (all_held same t.roles ws)
  lacks-is ws a = lacks_in f.sheet n ws a ∙ ap (λ (rs : Roles). not (all_held same rs ws)) (sym rep.roles)

  -- the ids of names that are held
  pub all_found : (ws : List Name) → All NameWord ws → all_held same t.roles ws ≡ true → All (Found f.sheet n) ws
  all_found ws a e = found_in f.sheet n ws a (ap (λ (rs : Roles). all_held same rs ws) (sym rep.roles) ∙ e)
