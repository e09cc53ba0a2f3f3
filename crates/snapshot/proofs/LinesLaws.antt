-- Laws of the lines in front of an image: those before some bytes have been taken, and these bytes go on as the whole does.
-- Assumes nothing.
use Rattle.std.proofs.Common.{◌≡◌, refl, sym, ap, ◌∙◌, subst, true, false, true≢false, List, [], ◌∷◌, ℕ, suc, ◌/◌, ◌-◌, ◌≤◌, arith, length, take, drop, get_or, length-drop, eq-eqb, ne_eqb, Result, Ok, Err, IsErr, Bor}
use Rattle.std.proofs.Math.Option.{Option, none, some}
use Rattle.common.specs.declared.refusals.Refusal.{Refusal}
use Rattle.frame.specs.Records.{records_of}
use Rattle.frame.specs.Record.{line_byte}
use Rattle.follow.specs.State.{fresh_state}
use Rattle.follow.specs.declared.state.State.{State}
use Rattle.intake.specs.Machine.{PositionMachine, fresh_machine}
use Rattle.intake.specs.Represents.{Represents}
use Rattle.intake.proofs.FreshState.{fresh-represents}
use Rattle.book.specs.Restoring.{and_then, is_line, line_records, other_records, take_line, take_lines}
use Rattle.lexer.specs.Tokens.{last}
use Rattle.grammar.specs.Readings.{EndOf}
use Rattle.grammar.proofs.AnswerLaws.{end_all, end_of_end}
use Rattle.snapshot.specs.Reading.{TakenAs, LineTaken, records_in, LinesAs, LinesTaken}

-- what the lines of an image leave
abbrev whole : List ℕ → Option PositionMachine
whole s = take_lines fresh_machine (line_records (records_in s))

-- the lines before the bytes `rest` are taken: the state represents the machine that takes the rest, and the records that are no lines stand in the rest
pub record TakenTo (s : List ℕ) (f : State) (rest : List ℕ) : Type 0 where
  pub machine : PositionMachine
  pub represents : Represents f machine
  pub lines : take_lines machine (line_records (records_in rest)) ≡ whole s
  pub others : other_records (records_in rest) ≡ other_records (records_in s)
  pub end : EndOf s rest

-- a fresh monitor has taken none
pub taken_none : (s : List ℕ) (f : State) → f ≡ fresh_state → TakenTo s f s
taken_none s f e = record { machine = fresh_machine; represents = fresh-represents f e; lines = refl; others = refl; end = end_all s }

-- what is left after a record is the end of what was left before it
end_dropped : (r : List ℕ) → 128 ≤ length r → EndOf r (drop 128 r)
unfolding last
end_dropped r h =
    let l = length-drop 128 r in
    let k : 128 ≡ length r - length (drop 128 r) = omega arith in
    record { fits = omega arith; bytes = ap (λ (n : ℕ). drop n r) k }

-- a record and those after it
records_next : (s : List ℕ) → 128 ≤ length s → records_in s ≡ take 128 s ∷ records_in (drop 128 s)
records_next s h =
    let l = length-drop 128 s in
    let e : length s / 128 ≡ suc (length (drop 128 s) / 128) = omega arith in
    ap (λ (k : ℕ). records_of k s) e

module _ (s : List ℕ) (f : State) (r : Bor (List ℕ)) (p : TakenTo s f r.now) where
  -- where no line is left, the rest are the other records
  stopped : (l : List (List ℕ)) → records_in r.now ≡ l → line_records l ≡ [] → other_records l ≡ l → LinesTaken s (Ok (f, r))
  stopped l e a b =
      let w : some p.machine ≡ whole s = sym (ap (take_lines p.machine) (ap line_records e ∙ a)) ∙ p.lines in
      let o : records_in r.now ≡ other_records (records_in s) = e ∙ sym b ∙ sym (ap other_records e) ∙ p.others in
      record { right = subst (λ (x : Option PositionMachine). LinesAs s x (Ok (f, r))) w (p.represents, o); end = λ q e. let h : (f, r) ≡ q = cc in subst (λ (x : State × Bor (List ℕ)). EndOf s x.1.now) h p.end }

  module _ (here after : List ℕ) (h : 128 ≤ length r.now) (front : here ≡ take 128 r.now) (back : after ≡ drop 128 r.now) where
    -- the records left are the one here and those after it
    rest-is : records_in r.now ≡ here ∷ records_in after
    rest-is = records_next r.now h ∙ sym (λ i. front i ∷ records_in (back i))

    -- the first that is no `L` record
    pub taken_others : (get_or here 0 0 ≡ line_byte → ⊥) → LinesTaken s (Ok (f, r))
    taken_others n = let q : is_line here ≡ false = ne_eqb (get_or here 0 0) line_byte n in stopped (here ∷ records_in after) rest-is (rw q refl) (rw q refl)

    module _ (e : get_or here 0 0 ≡ line_byte) where
      a_line : is_line here ≡ true
      a_line = eq-eqb (get_or here 0 0) line_byte e

      -- the lines left are its line and the lines after it
      lines_left : and_then (take_line p.machine here) (λ u. take_lines u (line_records (records_in after))) ≡ whole s
      lines_left = sym (ap (λ (l : List (List ℕ)). take_lines p.machine (line_records l)) rest-is ∙ rw a_line refl) ∙ p.lines

      -- the others stand after it
      others-left : other_records (records_in after) ≡ other_records (records_in s)
      others-left = sym (ap other_records rest-is ∙ rw a_line refl) ∙ p.others

      -- one line more
      pub taken_more : (g : State) → LineTaken f here (Ok tt) g → TakenTo s g after
      taken_more g t = go (take_line p.machine here) (t.right p.machine p.represents) lines_left
        where
          go : (o : Option PositionMachine) → TakenAs o (Ok tt) g → and_then o (λ u. take_lines u (line_records (records_in after))) ≡ whole s → TakenTo s g after
          go none a w = absurd (true≢false (sym a))
          go (some u) a w = record { machine = u; represents = a.1; lines = w; others = others-left; end = end_of_end s r.now after p.end (rw back (end_dropped r.now h)) }

      -- a line that is not taken
      pub taken_not : (g : State) (c : Refusal) → LineTaken f here (Err c) g → (x : Result (State × Bor (List ℕ)) Refusal) → IsErr x → LinesTaken s x
      taken_not g c t x q = go (take_line p.machine here) (t.right p.machine p.represents) lines_left
        where
          go : (o : Option PositionMachine) → TakenAs o (Err c) g → and_then o (λ u. take_lines u (line_records (records_in after))) ≡ whole s → LinesTaken s x
          go none a w = record { right = subst (λ (y : Option PositionMachine). LinesAs s y x) w q; end = λ v e. absurd (true≢false (sym (subst IsErr e q))) }
          go (some u) a w = absurd (true≢false (sym a.0))
