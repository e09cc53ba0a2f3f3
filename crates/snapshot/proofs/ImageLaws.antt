-- Laws of an image taken back: its lines, then its marks.
-- Assumes nothing.
use Rattle.std.proofs.Common.{◌≡◌, refl, sym, subst, true≢false, List, ℕ, ◌%◌, length, eq-eqb, ne_eqb, Result, Ok, Err, IsErr, Bor}
use Rattle.std.proofs.Math.Option.{Option, none, some}
use Rattle.common.specs.declared.refusals.Refusal.{Refusal}
use Rattle.follow.specs.declared.state.State.{State}
use Rattle.intake.specs.Machine.{PositionMachine, fresh_machine}
use Rattle.book.specs.Restoring.{and_then, take_lines, line_records, other_records, marks_read, restored}
use Rattle.snapshot.specs.Reading.{records_in, TakenAs, LinesAs, LinesTaken, ImageAs, MarksGiven, ImageRead}

module _ (s : List ℕ) where
  -- "an image that isn't whole records"
  pub image_uneven : (d : Refusal) → (length s % 128 ≡ 0 → ⊥) → ImageRead s (Err d)
  unfolding restored
  image_uneven d n = record { right = rw (ne_eqb (length s % 128) 0 n) refl }

  module _ (whole : length s % 128 ≡ 0) where
    -- what the lines leave, with the marks of the other records
    abbrev After : Option PositionMachine → Result State Refusal → Type 0
    After o r = ImageAs (and_then o (λ t. marks_read t (other_records (records_in s)))) r

    -- whole records: the lines, and then the marks
    image_whole : (r : Result State Refusal) → After (take_lines fresh_machine (line_records (records_in s))) r → ImageRead s r
    unfolding restored
    image_whole r h = record { right = rw (eq-eqb (length s % 128) 0 whole) h }

    -- "holds a line that a fresh monitor, given its lines in order, would refuse"
    pub image_refused : (c : Refusal) → LinesTaken s (Err c) → (r : Result State Refusal) → IsErr r → ImageRead s r
    image_refused c taken r q = image_whole r (go (take_lines fresh_machine (line_records (records_in s))) taken.right)
      where
        go : (o : Option PositionMachine) → LinesAs s o (Err c) → After o r
        go none h = q
        go (some t) h = absurd h

    -- the lines are taken: what the marks give
    module _ (p : State × Bor (List ℕ)) (taken : LinesTaken s (Ok p)) (g : State) where
      marked : (r : Result Unit Refusal) → MarksGiven p.0 p.1.now r g → (q : Result State Refusal) → ((o : Option PositionMachine) → TakenAs o r g → ImageAs o q) → ImageRead s q
      marked r m q k = image_whole q (go (take_lines fresh_machine (line_records (records_in s))) taken.right)
        where
          go : (o : Option PositionMachine) → LinesAs s o (Ok p) → After o q
          go none h = absurd (true≢false (sym h))
          go (some t) h = k (marks_read t (other_records (records_in s))) (subst (λ (rs : List (List ℕ)). TakenAs (marks_read t rs) r g) h.1 (m.right t h.0))

      pub image_given : MarksGiven p.0 p.1.now (Ok tt) g → ImageRead s (Ok g)
      image_given m = marked (Ok tt) m (Ok g) go
        where
          go : (o : Option PositionMachine) → TakenAs o (Ok tt) g → ImageAs o (Ok g)
          go none h = absurd (true≢false (sym h))
          go (some t) h = h.1

      pub image_marks_refused : (c : Refusal) → MarksGiven p.0 p.1.now (Err c) g → (r : Result State Refusal) → IsErr r → ImageRead s r
      image_marks_refused c m r q = marked (Err c) m r go
        where
          go : (o : Option PositionMachine) → TakenAs o (Err c) g → ImageAs o r
          go none h = q
          go (some t) h = absurd (true≢false (sym h.0))

-- the ways of an image
pub ruleset image_ways = (image_uneven, image_refused, image_given, image_marks_refused)
