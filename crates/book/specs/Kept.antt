-- Demand 3, second part: what an event of the list meets is not changed by later calls. Document 01, the last paragraph but one of "The full list".
-- Assumes nothing.
use Rattle.std.specs.Prelude.{◌≡◌, true, ◌↔◌, List, ◌∷◌, ◌++◌, ℕ}
use Rattle.lexer.specs.Words.{same}
use Rattle.grammar.specs.AsRead.{Pattern}
use Rattle.grammar.specs.Names.{pattern_names}
use Rattle.patterns.specs.Roles.{all_held}
use Rattle.patterns.specs.Meets.{order_of, meets}
use Rattle.chain.specs.Work.{committed}
use Rattle.book.specs.Names.{Event, Roles}
use Rattle.book.specs.Decide.{Call, worked}
use Rattle.book.specs.Book.{fresh_book, book_decides, book_step}
use Rattle.book.specs.Session.{left}

-- one of the calls cs, made to a fresh book, committed the event e, when the list was u
pub record CommittedIn (cs : List Call) (u : List Event) (e : Event) : Type 0 where
  pub before : List Call
  pub call : Call
  pub later : List Call
  pub count : ℕ
  pub calls : cs ≡ before ++ (call ∷ later)
  pub list : (left book_step fresh_book before).history ≡ u
  pub commits : book_decides (left book_step fresh_book before) call ≡ worked (committed e count)

-- the roles held after the calls
abbrev pub roles_after : List Call → Roles
roles_after cs = (left book_step fresh_book cs).roles

-- "Take any act in the book's list and any pattern whose roles were all held when that act was committed: the act meets it with the roles held then exactly
-- when it meets it with those held after any later call while it stands in the list."
pub record Kept (cs : List Call) (u : List Event) (e : Event) : Type 0 where
  pub since : CommittedIn cs u e
  pub meets-same : (p : Pattern) → all_held same (roles_after since.before) (pattern_names p) ≡ true
      → (meets (order_of same (roles_after since.before)) e p ≡ true) ↔ (meets (order_of same (roles_after cs)) e p ≡ true)
