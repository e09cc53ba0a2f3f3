-- The marks (here: positions) of a book's rules: document 01's for a rule that was declared, C-12's for one that came with its marks.
-- Assumes nothing.
use Rattle.std.specs.Prelude.{◌≡◌, true, ◌↔◌, List, [], ◌∷◌, ℕ, drop}
use Rattle.lexer.specs.Words.{same}
use Rattle.grammar.specs.AsRead.{Past}
use Rattle.patterns.specs.Meets.{order_of, meets}
use Rattle.positions.specs.Past.{Sat}
use Rattle.positions.specs.Positions.{Positions, Follows, Matched}
use Rattle.common.specs.Sets.{has_at}
use Rattle.positions.specs.Summaries.{Right}
use Rattle.follow.specs.Meaning.{past_meaning}
use Rattle.intake.specs.Machine.{PositionRule}
use Rattle.book.specs.Names.{Event, Roles}
use Rattle.book.specs.Book.{Origin, declared, given, Entry}

-- Document 02, C-12: "after a committed act the marks set are exactly those k where it meets pattern k and some mark set until then may stand just before k in a list of
-- patterns the past allows (mark 0 before the first)": from the set m over the events l, oldest first, to the set n
pub data Followed (rs : Roles) (p : Past) : Positions → List Event → Positions → Type 0 where
  followed_none : {m : Positions} → Followed rs p m [] m
  followed_more : {m m' n : Positions} {e : Event} {l : List Event}
      → ((k : ℕ) → (m' k ≡ true) ↔ Follows (past_meaning p) m (meets (order_of same rs) e) k) → Followed rs p m' l n → Followed rs p m (e ∷ l) n

-- the number n has the marks of a rule after the events l since its start, by where its marks come from
abbrev pub MarksOf : Roles → Past → Origin → List Event → ℕ → Type 0
MarksOf rs p declared l n = Right (meets (order_of same rs)) (past_meaning p) l n
MarksOf rs p (given m) l n = Followed rs p (has_at m) l (has_at n)

-- the past matches after the events l: by Appendix A; or, of marks that were given, "when some set mark may end such a list (mark 0 when the empty list is allowed)"
abbrev pub MatchesBy : Roles → Past → Origin → List Event → Type 0
MatchesBy rs p declared l = Sat (meets (order_of same rs)) l (past_meaning p)
MatchesBy rs p (given m) l = (n : Positions) × Followed rs p (has_at m) l n × Matched (past_meaning p) n

-- "A rule's marks are exactly this set after every call.": rule by rule, the positions are the marks after the events since the rule's start
pub data Marked (rs : Roles) (h : List Event) : List PositionRule → List Entry → Type 0 where
  marked_none : Marked rs h [] []
  marked_more : {f : PositionRule} {x : Entry} {fs : List PositionRule} {xs : List Entry} → f.rule ≡ x.rule
      → MarksOf rs x.rule.past x.origin (drop x.start h) f.positions → Marked rs h fs xs → Marked rs h (f ∷ fs) (x ∷ xs)
