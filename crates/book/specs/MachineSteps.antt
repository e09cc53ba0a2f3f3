-- The same machine with a number of positions (document 01: marks) for each rule in place of the list of events: the cost of a call does not grow.
-- Assumes nothing.
use Rattle.std.specs.Prelude.{List, map, ℕ, drop}
use Rattle.common.specs.Sets.{shares}
use Rattle.follow.specs.Rules.{ends_in}
pub use Rattle.intake.specs.Machine.{PositionRule, PositionMachine, fresh_machine, start_number, step_number, number_after, move_on, with_event, with_role, with_rule}
use Rattle.chain.specs.Work.{committed, held, unfit, too_long}
use Rattle.book.specs.Names.{Event, Roles, Duty, Outcome}
use Rattle.book.specs.Decide.{Call, Answer, Decision, refused, new_role, new_rule, worked, decide, answer}
use Rattle.book.specs.Book.{Book, Origin, declared, given, Entry}

-- the past matches now where a position held may end it
abbrev pub machine_duty : PositionRule → Duty
machine_duty x =
    record {
      rule = x.rule.name;
      matched = shares x.positions (ends_in x.rule.past);
      trigger = x.rule.trigger;
      response = x.rule.response;
    }

-- the same rows as the book's, with the positions to tell which pasts match
abbrev pub machine_decides : PositionMachine → Call → Decision
machine_decides m c = decide m.roles (map machine_duty m.rules) c

-- "H, U and T commit nothing."
abbrev pub machine_worked : PositionMachine → Outcome → PositionMachine
machine_worked m (committed e n) = with_event m e
machine_worked m (held w n) = m
machine_worked m (unfit w n) = m
machine_worked m (too_long w) = m

-- "The monitor is unchanged by every row."; a role and a rule join as in the book
abbrev pub machine_next : PositionMachine → Decision → PositionMachine
machine_next m (refused n) = m
machine_next m (new_role n p) = with_role m n p
machine_next m (new_rule r) = with_rule m r
machine_next m (worked o) = machine_worked m o

-- "One call is one step"
abbrev pub machine_step : PositionMachine → Call → PositionMachine × Answer
machine_step m c = (machine_next m (machine_decides m c), answer (machine_decides m c) c.buffer)

-- THE BOOK TAKEN TO POSITIONS

-- the positions that a rule has at its start
abbrev pub first_number : Origin → ℕ
first_number declared = start_number
first_number (given m) = m

-- those after the events since the rule's start
abbrev pub with_positions : Roles → List Event → Entry → PositionRule
with_positions rs h x = record { rule = x.rule; positions = number_after rs x.rule.past (first_number x.origin) (drop x.start h) }

-- every rule of a book with the positions after the list from its start on
abbrev pub machine_of : Book → PositionMachine
machine_of b = record { roles = b.roles; rules = map (with_positions b.roles b.history) b.rules }
