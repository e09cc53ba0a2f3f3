-- The monitor that a sheet leaves.
-- Assumes nothing.
use Rattle.std.proofs.Common.{◌≡◌, Bool, ℕ, zero, suc, ◌+◌, ◌*◌, ◌/◌, ◌%◌, ◌≤◌, ◌<◌, List, ◌++◌, map, length, take, drop, refl, sym, ap, ap₂, ◌∙◌, subst, arith, length-append, Result, eq-eqb, ne_eqb}
use Rattle.std.proofs.Math.Seq.{take-append_seam, drop-append_seam}
use Rattle.common.specs.declared.refusals.Refusal.{Refusal}
use Rattle.frame.specs.Records.{records_of}
use Rattle.follow.specs.declared.state.State.{State}
use Rattle.book.specs.MachineSteps.{PositionMachine, fresh_machine, machine_step, machine_of}
use Rattle.book.specs.Session.{left}
use Rattle.book.proofs.Whole.{whole-state}
use Rattle.intake.specs.Represents.{Represents}
use Rattle.monitor.specs.Sessions.{Begun}
use Rattle.judge.specs.Judging.{verdict_of, answer_of, Lent, lent_of, Judged}
use Rattle.judge.specs.Verdict.{Verdict, Yes, No, NoRule, NotWhole, Malformed, NotInLanguage, Unknown}
use Rattle.stand.specs.Numbers.{answered}
use Rattle.stand.specs.Sheets.{call_of, book_of, answer_number, sheet_judged, RecordLeaves, SheetLeaves}

-- the machine that n records of a sheet leave
abbrev leaves : PositionMachine → ℕ → List ℕ → PositionMachine
leaves t n s = left machine_step t (map call_of (records_of n s))

-- `rest` of the sheet is not read yet: the monitor represents the machine that reads it. A record has `size` bytes.
pub record ReadTo (sheet : List ℕ) (f : State) (size : ℕ) (rest : List ℕ) : Type 0 where
  pub whole : size ≡ 128
  pub machine : PositionMachine
  pub represents : Represents f machine
  pub more : ℕ
  pub fits : more * 128 ≤ length rest
  pub short : length rest < more * 128 + 128
  pub leads : leaves machine more rest ≡ leaves fresh_machine (length sheet / 128) sheet

pub read_none : (sheet : List ℕ) (f : State) (size : ℕ) (rest : List ℕ) → size ≡ 128 → rest ≡ sheet → Begun f → ReadTo sheet f size rest
read_none sheet f size rest n e b =
    rw e (record { whole = n; machine = fresh_machine; represents = b.fresh; more = length sheet / 128; fits = omega arith; short = omega arith; leads = refl })

-- one record more
pub read_more : (sheet : List ℕ) (f g : State) (size size' : ℕ) (rest b left : List ℕ) → ReadTo sheet f size rest → rest ≡ b ++ left → length b ≡ size → size' ≡ size
    → RecordLeaves f b g → ReadTo sheet g size' left
read_more sheet f g size size' rest b left p split full same h = go p.more p.fits p.short p.leads
  where
    one : length b ≡ 128
    one = full ∙ p.whole

    long : length rest ≡ 128 + length left
    long = omega (arith, ap length split, length-append b left, one)

    first : take 128 rest ≡ b
    first = rw split (subst (λ (k : ℕ). take k (b ++ left) ≡ b) one (take-append_seam b left))

    after : drop 128 rest ≡ left
    after = rw split (subst (λ (k : ℕ). drop k (b ++ left) ≡ left) one (drop-append_seam b left))

    go : (m : ℕ) → m * 128 ≤ length rest → length rest < m * 128 + 128 → leaves p.machine m rest ≡ leaves fresh_machine (length sheet / 128) sheet → ReadTo sheet g size' left
    go zero fits short leads = absurd (omega (arith, long, short))
    go (suc m) fits short leads =
        record {
          whole = same ∙ p.whole;
          machine = (machine_step p.machine (call_of b)).0;
          represents = h.right p.machine p.represents;
          more = m;
          fits = omega (arith, fits, long);
          short = omega (arith, short, long);
          leads = sym (ap₂ (λ (x y : List ℕ). leaves (machine_step p.machine (call_of x)).0 m y) first after) ∙ leads;
        }

-- less than a record is left
pub read_all : (sheet : List ℕ) (f : State) (size : ℕ) (rest : List ℕ) → ReadTo sheet f size rest → length rest < size → SheetLeaves sheet f
read_all sheet f size rest p few = go p.more p.fits p.leads
  where
    short : length rest < 128
    short = let n = p.whole in omega arith

    go : (m : ℕ) → m * 128 ≤ length rest → leaves p.machine m rest ≡ leaves fresh_machine (length sheet / 128) sheet → SheetLeaves sheet f
    go zero fits leads = record { right = subst (Represents f) (leads ∙ whole-state (map call_of (records_of (length sheet / 128) sheet))) p.represents }
    go (suc m) fits leads = absurd (omega (arith, short, fits))

-- the sheet is not whole records
pub sheet_uneven : (sheet : List ℕ) (i : ℕ) (s : List ℕ) → (length sheet % 128 ≡ 0 → ⊥) → 47244640256 ≡ sheet_judged sheet i s
unfolding sheet_judged
sheet_uneven sheet i s h = rw (ne_eqb (length sheet % 128) 0 h) refl

-- what is handed back is the number of its verdict
answered_number : (v : Verdict) → answered (answer_of v) ≡ answer_number v
answered_number Yes = refl
answered_number No = refl
answered_number NoRule = refl
answered_number NotWhole = refl
answered_number Malformed = refl
answered_number NotInLanguage = refl
answered_number Unknown = refl

pub sheet-whole : (sheet : List ℕ) (i : ℕ) (s : List ℕ) (f : State) (l : Lent) (a : Result Bool Refusal) (r : ℕ) → length sheet % 128 ≡ 0 → SheetLeaves sheet f → l ≡ lent_of f.sheet
    → Judged l i s (verdict_of a) → a ≡ answer_of (verdict_of a) → r ≡ answered a → r ≡ sheet_judged sheet i s
unfolding sheet_judged
sheet-whole sheet i s f l a r h left same j seven e =
    rw (eq-eqb (length sheet % 128) 0 h) (e ∙ ap answered seven ∙ answered_number (verdict_of a) ∙ ap answer_number (j.right f same (machine_of (book_of sheet)) left.right))
