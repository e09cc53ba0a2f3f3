-- Meeting a pattern depends on nothing but how the event's roles compare with the pattern's.
-- Assumes nothing.
use Rattle.std.proofs.Common.{◌≡◌, refl, ap, ap₂, Bool, true, false, not, ◌&&◌, ◌||◌, List, [], ◌∷◌, map}
use Rattle.grammar.specs.Trees.{Item, exact, below, Items, close, star_close, item, Simple, any_event, items, Condition, term, or, Term, negate, simple, inside, Pattern, plain, bracketed}
use Rattle.grammar.specs.Rename.{map_item, map_items, map_simple, map_condition, map_term, map_pattern}
use Rattle.grammar.specs.Names.{items_names, simple_names, condition_names, term_names, pattern_names}
use Rattle.common.proofs.Bools.{and_left, and_right}
use Rattle.common.specs.All.{All}
use Rattle.common.proofs.AllLaws.{all_of, all_left, all_right}
use Rattle.patterns.specs.Roles.{Role, Roles, is_held, all_held}
use Rattle.patterns.specs.Meets.{Order, order_of, item_meets, items_meet, simple_meets, term_meets, condition_meets, meets}
use Rattle.patterns.proofs.RoleLaws.{Lawful, below-later}

-- Other names: an event meets a pattern by the tests on the names that stand for theirs.
module _ {M N : Type 0} (f : M → N) (o : Order N) where
  abbrev pub through : Order M
  through = record { is = λ r p. o.is (f r) (f p); under = λ r p. o.under (f r) (f p) }

  item-map : (r : M) (x : Item M) → item_meets o (f r) (map_item f x) ≡ item_meets through r x
  unfolding map_item
  item-map r (exact p) = refl
  item-map r (below p) = refl

  items_map : (e : List M) (is : Items M) → items_meet o (map f e) (map_items f is) ≡ items_meet through e is
  unfolding map_items items_meet
  items_map [] close = refl
  items_map (r ∷ e) close = refl
  items_map e star_close = refl
  items_map [] (item x xs) = refl
  items_map (r ∷ e) (item x xs) = rw (item-map r x, items_map e xs) refl

  simple-map : (e : List M) (p : Simple M) → simple_meets o (map f e) (map_simple f p) ≡ simple_meets through e p
  unfolding map_simple items_meet
  simple-map e any_event = refl
  simple-map e (items is) = items_map e is

  mutual
    unfolding map_condition map_term condition_meets term_meets

    condition_map : (e : List M) (c : Condition M) → condition_meets o (map f e) (map_condition f c) ≡ condition_meets through e c
    condition_map e (term t) = term-map e t
    condition_map e (or t c) = rw (term-map e t, condition_map e c) refl

    term-map : (e : List M) (t : Term M) → term_meets o (map f e) (map_term f t) ≡ term_meets through e t
    term-map e (negate t) = ap not (term-map e t)
    term-map e (simple p) = simple-map e p
    term-map e (inside c) = condition_map e c

  pub meets-map : (e : List M) (p : Pattern M) → meets o (map f e) (map_pattern f p) ≡ meets through e p
  unfolding map_pattern meets
  meets-map e (plain p) = simple-map e p
  meets-map e (bracketed c) = condition_map e c

-- Two orders that agree on the event's roles (those with E) and the pattern's (those with P).
module _ {N : Type 0} (o o' : Order N) (E P : N → Type 0)
    (is_agrees : (r p : N) → E r → P p → o.is r p ≡ o'.is r p)
    (under_agrees : (r p : N) → E r → P p → o.under r p ≡ o'.under r p) where
  items_agree : (e : List N) (is : Items N) → All E e → All P (items_names is) → items_meet o e is ≡ items_meet o' e is
  unfolding items_meet items_names
  items_agree [] close h k = refl
  items_agree (r ∷ e) close h k = refl
  items_agree e star_close h k = refl
  items_agree [] (item i is) h k = refl
  items_agree (r ∷ e) (item (exact p) is) h k = ap₂ ◌&&◌ (is_agrees r p h.0 k.0) (items_agree e is h.1 k.1)
  items_agree (r ∷ e) (item (below p) is) h k = ap₂ ◌&&◌ (under_agrees r p h.0 k.0) (items_agree e is h.1 k.1)

  module _ (e : List N) (h : All E e) where
    simple_agree : (p : Simple N) → All P (simple_names p) → simple_meets o e p ≡ simple_meets o' e p
    unfolding simple_names items_meet
    simple_agree any_event k = refl
    simple_agree (items is) k = items_agree e is h k

    mutual
      unfolding condition_meets term_meets condition_names term_names

      condition_agree : (c : Condition N) → All P (condition_names c) → condition_meets o e c ≡ condition_meets o' e c
      condition_agree (term t) k = term_agree t k
      condition_agree (or t c) k = ap₂ ◌||◌ (term_agree t (all_left P (term_names t) (condition_names c) k)) (condition_agree c (all_right P (term_names t) (condition_names c) k))

      term_agree : (t : Term N) → All P (term_names t) → term_meets o e t ≡ term_meets o' e t
      term_agree (negate t) k = ap not (term_agree t k)
      term_agree (simple p) k = simple_agree p k
      term_agree (inside c) k = condition_agree c k

    pub meets_agree : (p : Pattern N) → All P (pattern_names p) → meets o e p ≡ meets o' e p
    unfolding meets pattern_names
    meets_agree (plain p) k = simple_agree p k
    meets_agree (bracketed c) k = condition_agree c k

-- A later role alters `meets` for no event of roles held before.
module _ {N : Type 0} (eq : N → N → Bool) (lawful : Lawful eq) (r : Role N) (rs : Roles N) (new : is_held eq rs r.name ≡ false) where
  abbrev Was : N → Type 0
  Was n = is_held eq rs n ≡ true

  held_all : (e : List N) → all_held eq rs e ≡ true → All Was e
  held_all [] h = tt
  held_all (n ∷ e) h = (and_left (is_held eq rs n) (all_held eq rs e) h, held_all e (and_right (is_held eq rs n) (all_held eq rs e) h))

  pub meets-later : (e : List N) → all_held eq rs e ≡ true → (p : Pattern N) → meets (order_of eq (r ∷ rs)) e p ≡ meets (order_of eq rs) e p
  meets-later e h p =
      meets_agree (order_of eq (r ∷ rs)) (order_of eq rs) Was (λ n. Unit {0}) (λ a b k u. refl) (λ a b k u. below-later eq lawful r rs new a b k)
      e (held_all e h) p (all_of (λ n. Unit {0}) (λ n. tt) (pattern_names p))
