-- The book: the reference model of a session, with the full list of committed events. Document 01, "The full list".
-- Assumes nothing.
use Rattle.std.specs.Prelude.{Bool, List, [], ◌∷◌, ◌++◌, map, ℕ, length, drop}
use Rattle.lexer.specs.Words.{same}
use Rattle.grammar.specs.AsRead.{Past}
use Rattle.patterns.specs.Roles.{top_name, fresh_roles}
use Rattle.patterns.specs.Meets.{order_of, meets}
use Rattle.positions.specs.Matcher.{matches}
use Rattle.common.specs.Sets.{has_at}
use Rattle.positions.specs.Walk.{steps, matches_now}
use Rattle.follow.specs.Meaning.{past_meaning}
use Rattle.chain.specs.Work.{committed, held, unfit, too_long}
use Rattle.book.specs.Names.{Event, Roles, Rule, Duty, Outcome}
use Rattle.book.specs.Decide.{Call, Answer, Decision, refused, new_role, new_rule, worked, decide, answer}

-- where a rule's positions (document 01: marks) come from: it was declared in this session; or an image from elsewhere gave them (document 02, C-12), as a number
-- whose "bit k is mark k"
pub data Origin : Type 0 where
  declared : Origin
  given : ℕ → Origin

-- "the rules .., each with its start"
pub record Entry : Type 0 where
  pub rule : Rule
  pub start : ℕ
  pub origin : Origin

-- "It holds the roles with their parents, the rules in declared order, each with its start, and the full list of committed acts as role names."
-- Roles and rules stand the last declared first, the events the oldest first.
pub record Book : Type 0 where
  pub roles : Roles
  pub rules : List Entry
  pub history : List Event

-- "A fresh book has top, no rules and an empty list."
abbrev pub fresh_book : Book
fresh_book = record { roles = fresh_roles top_name; rules = []; history = [] }

-- Whether a past matches after the events l since the rule's start. Declared: "the rules whose past matches the list from their start on, by Appendix A and the
-- book's roles"; `matched_by_appendix` of proofs/Meaning.antt. From elsewhere: "the marks it gives are followed" over l, and "the past matches when some set mark may
-- end such a list"; `matched_by_marks` says so in C-12's words.
abbrev pub matched_since : Roles → Past → Origin → List Event → Bool
matched_since rs p declared l = matches (meets (order_of same rs)) (past_meaning p) l
matched_since rs p (given m) l = matches_now (past_meaning p) (steps (meets (order_of same rs)) (past_meaning p) (has_at m) l)

-- a rule as the chain sees it
abbrev pub book_duty : Roles → List Event → Entry → Duty
book_duty rs h x =
    record {
      rule = x.rule.name;
      matched = matched_since rs x.rule.past x.origin (drop x.start h);
      trigger = x.rule.trigger;
      response = x.rule.response;
    }

-- every rule with whether its past matches now
abbrev pub book_duties : Book → List Duty
book_duties b = map (book_duty b.roles b.history) b.rules

-- "by rows 1 to 8, read off the book's own roles and rules"
abbrev pub book_decides : Book → Call → Decision
book_decides b c = decide b.roles (book_duties b) c

-- "If the work ends committed, the act then in hand joins the end of the list; otherwise the list stays."
abbrev pub book_worked : Book → Outcome → Book
book_worked b (committed e n) = record { roles = b.roles; rules = b.rules; history = b.history ++ (e ∷ []) }
book_worked b (held w n) = b
book_worked b (unfit w n) = b
book_worked b (too_long w) = b

-- "The book stays as it is."; "the role joins, under its parent."; "the rule joins last. Its start is the length of the list then."
abbrev pub book_next : Book → Decision → Book
book_next b (refused n) = b
book_next b (new_role n p) = record { roles = record { name = n; parent = p } ∷ b.roles; rules = b.rules; history = b.history }
book_next b (new_rule r) = record { roles = b.roles; rules = record { rule = r; start = length b.history; origin = declared } ∷ b.rules; history = b.history }
book_next b (worked o) = book_worked b o

-- "One call is one step"; "A step gives the refusal number, or 0, and the buffer"
abbrev pub book_step : Book → Call → Book × Answer
book_step b c = (book_next b (book_decides b c), answer (book_decides b c) c.buffer)
