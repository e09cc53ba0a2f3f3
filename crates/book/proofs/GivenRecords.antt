-- The records that give a machine its marks: what they say, in which order they stand, and that they are whole and no lines.
-- Assumes nothing.
use Rattle.std.proofs.Common.{refl, List, [], ◌∷◌, ◌++◌, map, ℕ, ◌≤◌, arith}
use Rattle.common.specs.All.{All}
use Rattle.common.specs.Limits.{max_patterns}
use Rattle.grammar.specs.Size.{size_past}
use Rattle.book.specs.MachineSteps.{PositionRule}
use Rattle.book.specs.Images.{in_order, digits, marks_record}
use Rattle.book.specs.Restoring.{short_digits}
use Rattle.book.specs.Accepted.{Gives, gives_sixteen, gives_eight, AllGive, give_none, give_more}
use Rattle.book.proofs.ImageLists.{Whole, NoLine}
use Rattle.book.proofs.Lasting.{Within}
use Rattle.book.proofs.MarkRecords.{RecordSaid, said_sixteen, said_eight, digits_room, mark-length, mark_no_line}

-- ONE RECORD

module _ (x : PositionRule) (s : List ℕ) where
  -- it says these marks, which the rule's past has
  pub given_said : size_past x.rule.past ≤ max_patterns → Within x → Gives x s → RecordSaid x.rule.name (size_past x.rule.past) s x.positions
  given_said f h (gives_sixteen e) = let r = digits_room (size_past x.rule.past) f in said_sixteen (record { bytes = e; room = omega (arith, h, r); within = h })
  given_said f h (gives_eight e l) = said_eight (record { bytes = e; room = l; within = h })

  -- and what says them gives them
  pub said_given : {n : ℕ} → RecordSaid x.rule.name n s x.positions → Gives x s
  said_given (said_sixteen d) = gives_sixteen d.bytes
  said_given (said_eight d) = gives_eight d.bytes d.room

  -- "records of 128 bytes again"
  given_whole : Gives x s → Whole s
  given_whole (gives_sixteen e) = rw e (mark-length digits x.rule.name x.positions)
  given_whole (gives_eight e l) = rw e (mark-length short_digits x.rule.name x.positions)

  -- "a record of byte `M`": no line
  given_no_line : Gives x s → NoLine s
  given_no_line (gives_sixteen e) = rw e (mark_no_line digits x.rule.name x.positions)
  given_no_line (gives_eight e l) = rw e (mark_no_line short_digits x.rule.name x.positions)

-- ALL OF THEM

-- keeping writes records that give the marks
pub kept_give : (xs : List PositionRule) → AllGive xs (map marks_record xs)
kept_give [] = give_none
kept_give (x ∷ xs) = give_more (gives_sixteen refl) (kept_give xs)

-- some and then others
give_append : {xs ys : List PositionRule} {ss ts : List (List ℕ)} → AllGive xs ss → AllGive ys ts → AllGive (xs ++ ys) (ss ++ ts)
give_append give_none h = h
give_append (give_more g gs) h = give_more g (give_append gs h)

-- in declared order, rules and records alike
pub gives_in_order : {xs : List PositionRule} {ss : List (List ℕ)} → AllGive xs ss → AllGive (in_order xs) (in_order ss)
gives_in_order give_none = give_none
gives_in_order (give_more g gs) = give_append (gives_in_order gs) (give_more g give_none)

-- they are whole
pub given_wholes : {xs : List PositionRule} {ss : List (List ℕ)} → AllGive xs ss → All Whole ss
given_wholes give_none = tt
given_wholes (give_more {x = x} {s = s} g gs) = (given_whole x s g, given_wholes gs)

-- nor is one of them a line
pub given_no_lines : {xs : List PositionRule} {ss : List (List ℕ)} → AllGive xs ss → All NoLine ss
given_no_lines give_none = tt
given_no_lines (give_more {x = x} {s = s} g gs) = (given_no_line x s g, given_no_lines gs)
