-- When an event meets a pattern. Document 01, "When an act meets a pattern"; source document 004, section 3.2.
-- Assumes nothing.
use Rattle.std.specs.Prelude.{Bool, true, false, not, ◌&&◌, ◌||◌, List, [], ◌∷◌}
use Rattle.grammar.specs.Trees.{Item, exact, below, Items, close, star_close, item, Simple, any_event, items, Condition, term, or, Term, negate, simple, inside, Pattern, plain, bracketed}
use Rattle.patterns.specs.Roles.{Roles, is_below}

-- how two roles compare: the first is the second; the first is the second or below it
pub record Order (N : Type 0) : Type 0 where
  pub is : N → N → Bool
  pub under : N → N → Bool

-- by the roles held
abbrev pub order_of : {N : Type 0} → (N → N → Bool) → Roles N → Order N
order_of eq rs = record { is = eq; under = λ a b. is_below eq rs a b }

module _ {N : Type 0} (o : Order N) where
  -- "An item is a name (that role) or `+` and a name (that role or one below it)."
  abbrev pub item_meets : N → Item N → Bool
  item_meets r (exact p) = o.is r p
  item_meets r (below p) = o.under r p

  -- "A simple pattern takes items and roles in turn, and lengths are equal unless `*` stands last, which takes the rest, none included"
  unfoldable pub items_meet : List N → Items N → Bool
  items_meet [] close = true
  items_meet (r ∷ e) close = false
  items_meet e star_close = true
  items_meet [] (item i is) = false
  items_meet (r ∷ e) (item i is) = item_meets r i && items_meet e is

  -- "any is `<*>`"
  abbrev pub simple_meets : List N → Simple N → Bool
  simple_meets e any_event = items_meet e star_close
  simple_meets e (items is) = items_meet e is

  -- "A condition is judged by its nesting: not is the opposite of the term inside it."; "terms joined by the word or"
  unfoldable mutual
    pub term_meets : List N → Term N → Bool
    term_meets e (negate t) = not (term_meets e t)
    term_meets e (simple p) = simple_meets e p
    term_meets e (inside c) = condition_meets e c

    pub condition_meets : List N → Condition N → Bool
    condition_meets e (term t) = term_meets e t
    condition_meets e (or t c) = term_meets e t || condition_meets e c

  -- "a simple pattern, or a condition in square brackets"
  unfoldable pub meets : List N → Pattern N → Bool
  meets e (plain p) = simple_meets e p
  meets e (bracketed c) = condition_meets e c
