-- Document 01's marks (here: positions), of the state's own array.
-- Assumes nothing.
use Rattle.std.specs.Prelude.{◌≡◌, true, ◌↔◌, List, [], ◌∷◌, ℕ, suc, drop, get_or}
use Rattle.follow.specs.State.{matches_in}
use Rattle.follow.specs.declared.state.State.{State}
use Rattle.book.specs.Names.{Event, Roles}
use Rattle.book.specs.Book.{Entry}
use Rattle.book.specs.Marks.{MarksOf, MatchesBy}

-- rule i of the state is the entry x of a book with the roles rs and the list h: its number is exactly the set of marks after the events since its start, document 01's or
-- those that an image gave, followed; and by it and the rule's ends the past matches exactly when Appendix A, or C-12, says so of those events
pub record RuleMarked (f : State) (rs : Roles) (h : List Event) (i : ℕ) (x : Entry) : Type 0 where
  pub marks : MarksOf rs x.rule.past x.origin (drop x.start h) (get_or f.positions i 0)
  pub matched : (matches_in f.sheet.ends f.positions i ≡ true) ↔ MatchesBy rs x.rule.past x.origin (drop x.start h)

-- "A rule's marks are exactly this set after every call.": the first n rules, the last declared first
pub data MarksIn (f : State) (rs : Roles) (h : List Event) : ℕ → List Entry → Type 0 where
  marks-none : MarksIn f rs h 0 []
  marks-more : {n : ℕ} {x : Entry} {xs : List Entry} → RuleMarked f rs h n x → MarksIn f rs h n xs → MarksIn f rs h (suc n) (x ∷ xs)
