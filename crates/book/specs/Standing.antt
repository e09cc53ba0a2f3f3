-- Demand 3, second part, over operations: what an event of the list meets is not changed while it stands in the list. Document 01, the last paragraph but one of "The full
-- list"; document 02, C-12: "the history is then the one at that moment, and later acts are forgotten".
-- Assumes nothing.
use Rattle.std.specs.Prelude.{◌≡◌, true, ◌↔◌, List, [], ◌∷◌, ◌++◌, ℕ}
use Rattle.std.proofs.Math.Option.{some}
use Rattle.lexer.specs.Words.{same}
use Rattle.grammar.specs.AsRead.{Pattern}
use Rattle.grammar.specs.Names.{pattern_names}
use Rattle.patterns.specs.Roles.{all_held}
use Rattle.patterns.specs.Meets.{order_of, meets}
use Rattle.chain.specs.Work.{committed}
use Rattle.book.specs.Names.{Event}
use Rattle.book.specs.Decide.{Call, worked}
use Rattle.book.specs.Book.{Book, fresh_book, book_decides, book_step}
use Rattle.book.specs.MachineSteps.{PositionMachine}
use Rattle.book.specs.Session.{left}
use Rattle.book.specs.Restoring.{restored}
use Rattle.book.specs.Operations.{Operation, call, batch, keep, restore}
use Rattle.book.specs.SessionBook.{book_from}

-- the operation restores nothing
abbrev pub Unrestored : Operation → Type 0
Unrestored (call c) = Unit {0}
Unrestored (batch r b) = Unit {0}
Unrestored (keep lent) = Unit {0}
Unrestored (restore image) = ⊥

-- some of a list, in order
pub data Part {A : Type 0} : List A → List A → Type 0 where
  part_end : Part [] []
  part_take : {a : A} {v w : List A} → Part v w → Part (a ∷ v) (a ∷ w)
  part_skip : {a : A} {v w : List A} → Part v w → Part v (a ∷ w)

-- the books that a history begins with: a fresh one, or one of an image from elsewhere
pub data Start : Book → Type 0 where
  start-fresh : Start fresh_book
  start_image : (s : List ℕ) (t : PositionMachine) → restored s ≡ some t → Start (book_from t)

-- the book b is what some of the calls made leave on such a book; the others are forgotten
pub record Story (made : List Call) (b : Book) : Type 0 where
  pub start : Book
  pub begins : Start start
  pub calls : List Call
  pub some-made : Part calls made
  pub leaves : left book_step start calls ≡ b

-- "Take any act in the book's list and any pattern whose roles were all held when that act was committed: the act meets it with the roles held then exactly when it meets
-- it with those held after any later call while it stands in the list.": e stands in the list of b, after u
pub record Stands (made : List Call) (b : Book) (u : List Event) (e : Event) : Type 0 where
  pub start : Book
  pub begins : Start start
  pub before : List Call
  pub call : Call
  pub later : List Call
  pub count : ℕ
  pub some-made : Part (before ++ (call ∷ later)) made
  pub leaves : left book_step start (before ++ (call ∷ later)) ≡ b
  pub list : (left book_step start before).history ≡ u
  pub commits : book_decides (left book_step start before) call ≡ worked (committed e count)
  pub meets-same : (p : Pattern) → all_held same (left book_step start before).roles (pattern_names p) ≡ true
      → (meets (order_of same (left book_step start before).roles) e p ≡ true) ↔ (meets (order_of same b.roles) e p ≡ true)
