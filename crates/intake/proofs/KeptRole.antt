-- One role more: the state with the role added represents the machine with it added.
-- Assumes nothing.
use Rattle.std.proofs.Common.{◌≡◌, refl, sym, ap, ap₂, ◌∙◌, subst, Bool, true, false, ⊎_elim, List, [], ◌∷◌, ℕ, zero, suc, ◌+◌, ◌<◌, add-one, arith, eqb, length, get_or, length-set, get_or-set_same, get_or-set_other, eq-eqb, ne_eqb}
use Rattle.common.specs.Limits.{max_roles}
use Rattle.lexer.specs.Words.{same}
use Rattle.common.proofs.Bools.{true_not_false, same_test}
use Rattle.lexer.proofs.KindLaws.{same_true}
use Rattle.lexer.proofs.SameLaws.{same_refl}
use Rattle.grammar.specs.Names.{rule_names, past_names, pattern_names}
use Rattle.names.specs.Name.{packed}
use Rattle.names.specs.Unpacked.{unpacked}
use Rattle.names.proofs.UnpackedLaws.{unpacked-name}
use Rattle.common.specs.All.{All}
use Rattle.common.proofs.AllLaws.{all_left, all_right, all_map}
use Rattle.patterns.specs.Roles.{Roles, is_held}
use Rattle.patterns.specs.Table.{Ordered, roles_of}
use Rattle.patterns.proofs.RenameAgree.{past_agree, pattern_agree, response_agree}
use Rattle.patterns.proofs.AboveLaws.{split, gathered_joined}
use Rattle.follow.specs.State.{add_role, join_role}
use Rattle.follow.specs.declared.state.Sheet.{Sheet}
use Rattle.follow.specs.declared.state.State.{State}
use Rattle.intake.specs.Names.{Name, Rule}
use Rattle.intake.specs.Machine.{PositionMachine, PositionRule, with_role}
use Rattle.intake.specs.Represents.{name_at, roles_in, NameWord, Sized, Naming, RuleIs, Rules, rules-none, rules-more, Represents}
use Rattle.intake.proofs.Naming.{held_up}

-- tables that agree on the first n
roles_agree : (nm mm : ℕ → Name) (ps qs : List ℕ) (n : ℕ) → ((i : ℕ) → i < n → nm i ≡ mm i) → ((i : ℕ) → i < n → get_or ps i 0 ≡ get_or qs i 0) → ((i : ℕ) → i < n → nm (get_or ps i 0) ≡ mm (get_or ps i 0))
    → roles_of nm ps n ≡ roles_of mm qs n
roles_agree nm mm ps qs zero h k l = refl
roles_agree nm mm ps qs (suc n) h k l =
    let a : nm n ≡ mm n = h n (omega arith) in
    let b : nm (get_or ps n 0) ≡ mm (get_or qs n 0) = l n (omega arith) ∙ ap mm (k n (omega arith)) in
    let c : roles_of nm ps n ≡ roles_of mm qs n = roles_agree nm mm ps qs n (λ i m. h i (omega arith)) (λ i m. k i (omega arith)) (λ i m. l i (omega arith)) in
    λ j. record { name = a j; parent = b j } ∷ c j

module _ (s : Sheet) (n : Naming s) (long : length s.names ≡ 64) (long-parents : length s.parents ≡ 64) (long-above : length s.above ≡ 64) (w : Name) (a : NameWord w) (p : ℕ) (h : p < s.role_count)
    (room : s.role_count < max_roles) (free : is_held same (roles_in s) w ≡ false) where
  abbrev after : Sheet
  after = add_role s (packed w) p

  old_number : (i : ℕ) → i < s.role_count → get_or after.names i 0 ≡ get_or s.names i 0
  old_number i k = get_or-set_other s.names s.role_count i (packed w) 0 (λ e. absurd (omega arith))

  old : (i : ℕ) → i < s.role_count → name_at after i ≡ name_at s i
  old i k = ap unpacked (old_number i k)

  new_number : get_or after.names s.role_count 0 ≡ packed w
  new_number = get_or-set_same s.names s.role_count (packed w) 0 (omega (arith, long))

  new : name_at after s.role_count ≡ w
  new = ap unpacked new_number ∙ unpacked-name w a.name a.wordy

  old_parent : (i : ℕ) → i < s.role_count → get_or after.parents i 0 ≡ get_or s.parents i 0
  old_parent i k = get_or-set_other s.parents s.role_count i p 0 (λ e. absurd (omega arith))

  new_parent : get_or after.parents s.role_count 0 ≡ p
  new_parent = get_or-set_same s.parents s.role_count p 0 (omega (arith, long-parents))

  -- no role had the name
  other : (i : ℕ) → i < s.role_count → same w (name_at s i) ≡ false
  other i k = go (same w (name_at s i)) refl
    where
      go : (q : Bool) → same w (name_at s i) ≡ q → q ≡ false
      go true e =
          absurd (true_not_false (is_held same (roles_in s) w) (held_up s n s.parents s.role_count i w k (sym (same_true w (name_at s i) e))) free)
      go false e = refl

  abbrev Told : ℕ → Type 0
  Told i = (get_or after.names i 0 ≡ packed (name_at after i)) × NameWord (name_at after i)

  told : (i : ℕ) → i < s.role_count + 1 → Told i
  told i k =
      ⊎_elim
      (λ l. (old_number i l ∙ n.packed i l ∙ ap packed (sym (old i l)), subst NameWord (sym (old i l)) (n.word i l)))
      (λ e. subst Told (sym e) (new_number ∙ ap packed (sym new), subst NameWord (sym new) a))
      (split i s.role_count k)

  swap : (u v : Name) → same u v ≡ same v u
  swap u v = same_test (same u v) (same v u) (turn u v, turn v u)
    where
      turn : (u v : Name) → same u v ≡ true → same v u ≡ true
      turn u v e = subst (λ (x : Name). same x u ≡ true) (same_true u v e) (same_refl u)

  distinct : (i j : ℕ) → i < s.role_count + 1 → j < s.role_count + 1 → same (name_at after i) (name_at after j) ≡ eqb i j
  distinct i j k l =
      ⊎_elim
      (λ k'. ⊎_elim
      (λ l'. ap₂ same (old i k') (old j l') ∙ n.distinct i j k' l')
      (λ e. ap₂ same (old i k') (ap (name_at after) e ∙ new) ∙ swap (name_at s i) w ∙ other i k' ∙ sym (ne_eqb i j (λ q. absurd (omega arith))))
      (split j s.role_count l))
      (λ e. ⊎_elim
      (λ l'. ap₂ same (ap (name_at after) e ∙ new) (old j l') ∙ other j l' ∙ sym (ne_eqb i j (λ q. absurd (omega arith))))
      (λ d. ap₂ same (ap (name_at after) e ∙ new) (ap (name_at after) d ∙ new) ∙ same_refl w ∙ sym (eq-eqb i j (e ∙ sym d)))
      (split j s.role_count l))
      (split i s.role_count k)

  ordered : Ordered (s.role_count + 1) after.parents
  ordered =
      record {
        fits = rw (length-set s.parents s.role_count p, long-parents) (omega arith);
        top = old_parent 0 n.some ∙ n.ordered.top;
        up = λ i q k.
            ⊎_elim
            (λ l. subst (λ (x : ℕ). x < i) (sym (old_parent i l)) (n.ordered.up i q l))
            (λ e. subst (λ (x : ℕ). get_or after.parents x 0 < x) (sym e) (subst (λ (x : ℕ). x < s.role_count) (sym new_parent) h))
            (split i s.role_count k);
      }

  naming : Naming after
  naming =
      record {
        few = omega arith;
        there = rw (length-set s.names s.role_count (packed w), long) (omega arith);
        some = omega arith;
        packed = λ i k. (told i k).0;
        word = λ i k. (told i k).1;
        distinct = distinct;
        ordered = ordered;
        gathered = gathered_joined s.role_count s.parents s.above n.ordered n.gathered n.some (omega (arith, long-parents)) (omega (arith, long-above)) p h;
      }

  -- a parent stands before its child
  before : (i : ℕ) → i < s.role_count → get_or s.parents i 0 < s.role_count
  before zero k = subst (λ (x : ℕ). x < s.role_count) (sym n.ordered.top) k
  before (suc i) k = let l = n.ordered.up (suc i) (omega arith) k in omega arith

  roles : record { name = w; parent = name_at s p } ∷ roles_in s ≡ roles_of (name_at after) after.parents (s.role_count + 1)
  roles =
      let first : w ≡ name_at after s.role_count = sym new in
      let second : name_at s p ≡ name_at after (get_or after.parents s.role_count 0) = sym (old p h) ∙ ap (name_at after) (sym new_parent) in
      let rest : roles_in s ≡ roles_of (name_at after) after.parents s.role_count =
      roles_agree (name_at s) (name_at after) s.parents after.parents s.role_count (λ i k. sym (old i k)) (λ i k. sym (old_parent i k)) (λ i k. sym (old (get_or s.parents i 0) (before i k))) in
      (λ j. record { name = first j; parent = second j } ∷ rest j) ∙ ap (λ (x : ℕ). roles_of (name_at after) after.parents x) (sym (add-one s.role_count))

  rule-kept : (i : ℕ) (r : Rule) → RuleIs s i r → RuleIs after i r
  unfolding rule_names
  rule-kept i r x =
      let ag : All (λ k. name_at s k ≡ name_at after k) (rule_names x.tree.past x.tree.trigger x.tree.response) =
      all_map (λ k. k < s.role_count) (λ k. name_at s k ≡ name_at after k) (λ k l. sym (old k l)) (rule_names x.tree.past x.tree.trigger x.tree.response) x.ids in
      let late = all_right (λ k. name_at s k ≡ name_at after k) (past_names x.tree.past) _ ag in
      record {
        tree = x.tree;
        keeps = x.keeps;
        ids = all_map (λ k. k < s.role_count) (λ k. k < s.role_count + 1) (λ k l. omega arith) (rule_names x.tree.past x.tree.trigger x.tree.response) x.ids;
        short = x.short;
        small = x.small;
        named = x.named;
        word = x.word;
        past = x.past ∙ past_agree (name_at s) (name_at after) x.tree.past (all_left (λ k. name_at s k ≡ name_at after k) (past_names x.tree.past) _ ag);
        trigger = x.trigger ∙ pattern_agree (name_at s) (name_at after) x.tree.trigger (all_left (λ k. name_at s k ≡ name_at after k) (pattern_names x.tree.trigger) _ late);
        response = x.response ∙ response_agree (name_at s) (name_at after) x.tree.response (all_right (λ k. name_at s k ≡ name_at after k) (pattern_names x.tree.trigger) _ late);
        said = x.said;
      }

module _ (f : State) (z : Sized f) (t : PositionMachine) (rep : Represents f t) (w : Name) (a : NameWord w) (p : ℕ) (h : p < f.sheet.role_count)
    (room : f.sheet.role_count < max_roles) (free : is_held same t.roles w ≡ false) where
  unnamed : is_held same (roles_in f.sheet) w ≡ false
  unnamed = ap (λ (rs : Roles Name). is_held same rs w) (sym rep.roles) ∙ free

  rules-kept : (k : ℕ) (l : List PositionRule) → Rules f k l → Rules (join_role f (packed w) p) k l
  rules-kept zero [] rules-none = rules-none
  rules-kept (suc k) (x ∷ l) (rules-more y ys) =
      rules-more
      (record { rule = rule-kept f.sheet rep.naming z.names z.parents z.above w a p h room unnamed k x.rule y.rule; positions = y.positions; within = y.within })
      (rules-kept k l ys)
  rules-kept zero (x ∷ l) x3 = elim x3 [ ]
  rules-kept (suc k) [] x3 = elim x3 [ ]

  pub kept-role : Represents (join_role f (packed w) p) (with_role t w (name_at f.sheet p))
  kept-role =
      record {
        naming = naming f.sheet rep.naming z.names z.parents z.above w a p h room unnamed;
        few = rep.few;
        roles = rw rep.roles (roles f.sheet rep.naming z.names z.parents z.above w a p h room unnamed);
        rules = rules-kept f.sheet.rule_count t.rules rep.rules;
      }
