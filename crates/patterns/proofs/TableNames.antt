-- What the code finds of ids, by the sets of the roles above, is what `is_below` and `meets` say of the names that stand for them.
-- Assumes nothing.
use Rattle.std.proofs.Common.{◌≡◌, refl, sym, ap, ap₂, ◌∙◌, subst, Bool, true, false, cond, ◌||◌, ⊎_elim, List, map, ℕ, zero, suc, ◌≤◌, ◌<◌, arith, eqb, get_or, eq-eqb, ne_eqb}
use Rattle.grammar.specs.Trees.{Pattern}
use Rattle.grammar.specs.Rename.{map_pattern}
use Rattle.grammar.specs.Names.{pattern_names}
use Rattle.common.specs.All.{All}
use Rattle.patterns.specs.Roles.{is_below}
use Rattle.patterns.specs.Table.{below_by, Ordered, Gathered, roles_of}
use Rattle.patterns.specs.Meets.{order_of, meets}
use Rattle.patterns.specs.Judged.{order_by}
use Rattle.patterns.proofs.AboveLaws.{split, below_top, below_joined}
use Rattle.patterns.proofs.RoleLaws.{below_up}
use Rattle.patterns.proofs.MeetsLaws.{through, meets-map, meets_agree}

or_itself : (a : Bool) → (a || a) ≡ a
or_itself true = refl
or_itself false = refl

-- a table of `count` roles in order, with the sets of the roles above, and distinct names
module _ {N : Type 0} (eq : N → N → Bool) (nm : ℕ → N) (ps above : List ℕ) (count : ℕ) (few : count ≤ 64) (o : Ordered count ps) (g : Gathered count ps above)
    (distinct : (i j : ℕ) → i < count → j < count → eq (nm i) (nm j) ≡ eqb i j) where
  -- the last role: itself, or what its parent is below
  last-up : (n j : ℕ) → n < count → j < count → is_below eq (roles_of nm ps (suc n)) (nm n) (nm j) ≡ (eqb n j || is_below eq (roles_of nm ps n) (nm (get_or ps n 0)) (nm j))
  unfolding is_below
  last-up n j h k =
      ap₂ (λ (a b : Bool). a || is_below eq (roles_of nm ps n) (cond b (nm (get_or ps n 0)) (nm n)) (nm j)) (distinct n j h k) (distinct n n h h ∙ eq-eqb n n refl)

  last-same : (n j : ℕ) → n < count → j < count → ((i : ℕ) → i < n → is_below eq (roles_of nm ps n) (nm i) (nm j) ≡ below_by above i j)
      → is_below eq (roles_of nm ps (suc n)) (nm n) (nm j) ≡ below_by above n j
  unfolding is_below
  last-same zero j h k ih =
      last-up zero j h k
      ∙ ap (λ (b : Bool). eqb 0 j || b) (ap (λ (x : ℕ). eq (nm x) (nm j)) o.top ∙ distinct 0 j h k)
      ∙ or_itself (eqb 0 j) ∙ sym (below_top above j g.top)
  last-same (suc n) j h k ih =
      last-up (suc n) j h k
      ∙ ap (λ (b : Bool). eqb (suc n) j || b) (ih (get_or ps (suc n) 0) (o.up (suc n) (omega arith) h))
      ∙ sym (below_joined above (suc n) (get_or ps (suc n) 0) j (omega arith) (g.up (suc n) (omega arith) h))

  -- an earlier one
  earlier_same : (n i j : ℕ) → n < count → i < n → is_below eq (roles_of nm ps n) (nm i) (nm j) ≡ below_by above i j → is_below eq (roles_of nm ps (suc n)) (nm i) (nm j) ≡ below_by above i j
  unfolding is_below
  earlier_same n i j h q ih =
      let z : eq (nm i) (nm n) ≡ false = distinct i n (omega arith) h ∙ ne_eqb i n (λ e. omega arith) in
      ap (λ (b : Bool). eq (nm i) (nm j) || is_below eq (roles_of nm ps n) (cond b (nm (get_or ps n 0)) (nm i)) (nm j)) z ∙ (below_up eq (roles_of nm ps n) (nm i) (nm j) ∙ ih)

  below_upto : (n : ℕ) → n ≤ count → (i j : ℕ) → i < n → j < count → is_below eq (roles_of nm ps n) (nm i) (nm j) ≡ below_by above i j
  below_upto zero h i j l k = absurd (omega arith)
  below_upto (suc n) h i j l k =
      ⊎_elim
      (λ q. earlier_same n i j h q (below_upto n (omega arith) i j q k))
      (λ e. subst (λ (x : ℕ). is_below eq (roles_of nm ps (suc n)) (nm x) (nm j) ≡ below_by above x j) (sym e) (last-same n j h k (λ x q. below_upto n (omega arith) x j q k)))
      (split i n (omega arith))

  pub below-same : (i j : ℕ) → i < count → j < count → is_below eq (roles_of nm ps count) (nm i) (nm j) ≡ below_by above i j
  below-same i j h k = below_upto count (omega arith) i j h k

  -- what the code judges of ids is what is said of names
  pub meets-same : (e : List ℕ) → All (λ i. i < count) e → (p : Pattern ℕ) → All (λ i. i < count) (pattern_names p)
      → meets (order_of eq (roles_of nm ps count)) (map nm e) (map_pattern nm p) ≡ meets (order_by above) e p
  meets-same e h p k =
      meets-map nm (order_of eq (roles_of nm ps count)) e p
      ∙ meets_agree (through nm (order_of eq (roles_of nm ps count))) (order_by above) (λ i. i < count) (λ i. i < count) distinct_in below-same e h p k
    where
      distinct_in : (i j : ℕ) → i < count → j < count → eq (nm i) (nm j) ≡ eqb i j
      distinct_in i j a b = distinct i j a b
