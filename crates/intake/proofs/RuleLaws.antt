-- What becomes of a rule line is what it asks.
-- Assumes nothing.
use Rattle.std.proofs.Common.{◌≡◌, refl, sym, ap, ◌∙◌, subst, Bool, true, false, not, List, ℕ, ◌≤◌, ◌<◌, arith, leb, ltb, length, ltb-true, leb-true}
use Rattle.std.proofs.Math.Option.{some}
use Rattle.common.specs.Limits.{max_patterns, max_rules}
use Rattle.lexer.specs.Words.{same}
use Rattle.grammar.specs.AsRead.{Past, Pattern, Response, rule}
use Rattle.grammar.specs.Rename.{map_past, map_pattern, map_response}
use Rattle.grammar.specs.Names.{past_names, pattern_names, response_names, rule_names}
use Rattle.grammar.specs.Size.{size_past}
use Rattle.grammar.specs.Valid.{ValidResponse, ValidLine}
use Rattle.grammar.specs.Lines.{Says}
use Rattle.grammar.proofs.RenameLaws.{size-map}
use Rattle.code.specs.Code.{id_of}
use Rattle.code.specs.Lines.{rule_line_of}
use Rattle.code.specs.declared.lines.RuleLine.{RuleLine}
use Rattle.code.proofs.LineLaws.{RuleTold, rule_told}
use Rattle.common.specs.All.{All}
use Rattle.common.proofs.AllLaws.{all_append, all_left, all_right, all_map}
use Rattle.patterns.specs.Roles.{all_held}
use Rattle.patterns.proofs.RenameNames.{past_all, pattern-all, response-all}
use Rattle.patterns.proofs.RenameBack.{past_back, pattern_back, response_back}
use Rattle.follow.specs.Rules.{Tree}
use Rattle.follow.specs.State.{is_taken, join_rule, declare_rule, Unmoved}
use Rattle.follow.specs.State as kept
use Rattle.follow.specs.declared.state.State.{State}
use Rattle.follow.specs.Declaring.{Declared}
use Rattle.follow.proofs.Steady.{rule-steady}
use Rattle.follow.proofs.ShortLaws.{valid-short}
use Rattle.intake.specs.Names.{Name}
use Rattle.intake.specs.Asked.{is_free, asked_line}
use Rattle.intake.specs.Machine.{PositionMachine, names_of, with_rule}
use Rattle.intake.specs.Represents.{name_at, table_of, NameWord, Sized, Represents}
use Rattle.intake.specs.Declaring.{DeclaredAs, line_asked, RuleLineDeclared}
use Rattle.intake.proofs.SaidNames.{said-names}
use Rattle.intake.proofs.TakenNames as names
use Rattle.intake.proofs.TakenNames.{taken_is, lacks-is, all_found, rules-length}
use Rattle.intake.proofs.KeptRule.{kept_rule}
use Rattle.intake.proofs.DeclareLaws.{refusing, taking_rule}

valid-response : (w : Name) (p : Past) (q : Pattern) (x : Response) → ValidLine (rule w p q x) → ValidResponse x
unfolding ValidLine
valid-response w p q x h = h.1.1.1

module _ (f : State) (z : Sized f) (s : List ℕ) (l : RuleLine) (read : l ≡ rule_line_of (table_of f.sheet) s) (c : Declared) (made : kept.RuleDeclared f l c) where
  module _ (t : PositionMachine) (rep : Represents f t) (fits : length s ≤ 126) (w : Name) (p : Past) (q : Pattern) (x : Response) (says : Says s (rule w p q x)) where
    abbrev table : List ℕ
    table = table_of f.sheet

    told : RuleTold table w p q x l
    told = subst (RuleTold table w p q x) (sym read) (rule_told table s fits w p q x says)

    words : All NameWord (rule_names p q x)
    words = (said-names s (rule w p q x) says).1

    word : NameWord w
    word = (said-names s (rule w p q x) says).0

    is-taken : is_taken f.sheet l.name ≡ not (is_free t.roles (names_of t.rules) w)
    is-taken = ap (is_taken f.sheet) told.name ∙ taken_is f z t rep w word

    is_unknown : l.body.unknown ≡ not (all_held same t.roles (rule_names p q x))
    is_unknown = told.unknown ∙ lacks-is f z t rep (rule_names p q x) words

    has_room : ltb f.sheet.rule_count max_rules ≡ ltb (length (names_of t.rules)) max_rules
    has_room = ap (λ (k : ℕ). ltb k max_rules) (sym (rules-length f z t rep))

    -- the rule's tree, with ids
    abbrev tree : Tree
    tree = record { past = map_past (id_of table) p; trigger = map_pattern (id_of table) q; response = map_response (id_of table) x }

    abbrev Id : ℕ → Type 0
    Id k = k < f.sheet.role_count

    abbrev Back : Name → Type 0
    Back v = name_at f.sheet (id_of table v) ≡ v

    module _ (found : All (names.Found f.sheet rep.naming) (rule_names p q x)) where
      ids : All Id (rule_names tree.past tree.trigger tree.response)
      unfolding rule_names
      ids =
          let F : Name → Type 0 = names.Found f.sheet rep.naming in
          let one : (v : Name) → F v → Id (id_of table v) = λ v k. k.0 in
          let late = all_right F (past_names p) _ found in
          all_append Id (past_names tree.past) _ (past_all (id_of table) F Id one p (all_left F (past_names p) _ found))
          (all_append Id (pattern_names tree.trigger) (response_names tree.response) (pattern-all (id_of table) F Id one q (all_left F (pattern_names q) (response_names x) late))
          (response-all (id_of table) F Id one x (all_right F (pattern_names q) (response_names x) late)))

      backs : All Back (rule_names p q x)
      backs = all_map (names.Found f.sheet rep.naming) Back (λ v k. k.1) (rule_names p q x) found

      kept-tree : size_past p ≤ max_patterns → ltb f.sheet.rule_count max_rules ≡ true
          → Represents (join_rule f l.name made.rule) (with_rule t (record { name = w; past = p; trigger = q; response = x }))
      unfolding rule_names
      kept-tree small room =
          let late = all_right Back (past_names p) _ backs in
          kept_rule f z t rep made.rule tree (made.compiled.right tree (record { fits = let m = told.small in omega arith; is = told.code })) ids
          (valid-short (id_of table) x (valid-response w p q x says.valid)) (subst (λ (k : ℕ). k ≤ max_patterns) (sym (size-map (id_of table) p)) small)
          (record { name = w; past = p; trigger = q; response = x }) l.name told.name word
          (sym (past_back (id_of table) (name_at f.sheet) p (all_left Back (past_names p) _ backs)))
          (sym (pattern_back (id_of table) (name_at f.sheet) q (all_left Back (pattern_names q) (response_names x) late)))
          (sym (response_back (id_of table) (name_at f.sheet) x (all_right Back (pattern_names q) (response_names x) late)))
          (record { text = s; short = fits; says = says })
          made.compiled.whole (ltb-true f.sheet.rule_count max_rules room)

    abbrev Told : Type 0
    Told = DeclaredAs f t (line_asked t (some (rule w p q x))) c

    abbrev free : Bool
    free = is_free t.roles (names_of t.rules) w

    abbrev all : Bool
    all = all_held same t.roles (rule_names p q x)

    abbrev few : Bool
    few = leb (size_past p) max_patterns

    abbrev room : Bool
    room = ltb (length (names_of t.rules)) max_rules

    rule-taken : free ≡ true → all ≡ true → few ≡ true → room ≡ true → Told
    unfolding asked_line declare_rule
    rule-taken a b d e =
        let kept = kept-tree (all_found f z t rep (rule_names p q x) words b) (leb-true (size_past p) max_patterns d) (has_room ∙ e) in
        taking_rule f t (line_asked t (some (rule w p q x))) c (join_rule f l.name made.rule) w word l.name told.name
        (made.is ∙ rw (is-taken ∙ ap not a, is_unknown ∙ ap not b, told.fits ∙ d, has_room ∙ e) refl)
        (record { name = w; past = p; trigger = q; response = x }) refl
        (rw (a, b, d, e) refl)
        kept

    rule-right : Told
    unfolding asked_line declare_rule
    rule-right = go free all few room refl refl refl refl
      where
        go : (i j k m : Bool) → free ≡ i → all ≡ j → few ≡ k → room ≡ m → Told
        go false j k m a b d e = refusing f t (line_asked t (some (rule w p q x))) c 5 (rw a refl) (made.is ∙ rw (is-taken ∙ ap not a) refl)
        go true false k m a b d e = refusing f t (line_asked t (some (rule w p q x))) c 6 (rw (a, b) refl) (made.is ∙ rw (is-taken ∙ ap not a, is_unknown ∙ ap not b) refl)
        go true true false m a b d e = refusing f t (line_asked t (some (rule w p q x))) c 7 (rw (a, b, d) refl) (made.is ∙ rw (is-taken ∙ ap not a, is_unknown ∙ ap not b, told.fits ∙ d) refl)
        go true true true false a b d e =
            refusing f t (line_asked t (some (rule w p q x))) c 8 (rw (a, b, d, e) refl) (made.is ∙ rw (is-taken ∙ ap not a, is_unknown ∙ ap not b, told.fits ∙ d, has_room ∙ e) refl)
        go true true true true a b d e = rule-taken a b d e

  pub rule-declared : RuleLineDeclared f s c
  rule-declared = record {
    steady = subst (λ (d : Declared). Unmoved f d) (sym made.is) (rule-steady f l made.rule);
    right = λ t rep k w p q x says. rule-right t rep k w p q x says;
  }
