-- What the judge record-answers in a record, by the kind that `ask` tells.
-- Assumes nothing.
use Rattle.std.proofs.Common.{◌≡◌, ℕ, List, refl, sym, ap, ◌∙◌, arith, Ok, Err}
use Rattle.common.specs.declared.refusals.Refusal.TheVariants as why
use Rattle.frame.specs.Text.{text_of}
use Rattle.frame.specs.Record.{event_byte, frame_of}
use Rattle.frame.specs.Framed.{Framed, Says}
use Rattle.frame.specs.Record.{Frame}
use Rattle.frame.specs.Record.{Line as LineRecord, Event as EventRecord, WrongLength, Malformed as MalformedRecord}
use Rattle.frame.proofs.FrameLaws.{frame_exactly}
use Rattle.follow.specs.declared.state.Sheet.{Sheet}
use Rattle.intake.specs.Names.{Event, Roles}
use Rattle.intake.specs.Represents.{roles_in}
use Rattle.intake.specs.Asking.{Asks, Means, seen-refusal, seen-event, Told, told-short, told_malformed, told_line, told-event}
use Rattle.intake.specs.Requests.{Refusal, Line, Event as EventKind, Request}
use Rattle.intake.proofs.KindLaws.{by_line}
use Rattle.judge.specs.Judge.{an_event, refusal, verdict_by, text_answer, frame_answer, record_answer}
use Rattle.judge.specs.Judging.{refusal_by, gives_event, gives_refusal, EventAsked}
use Rattle.judge.specs.Verdict.{Malformed}
use Rattle.judge.proofs.Handed.{verdict_by-number, seven-by_number}

module _ (rs : Roles) (b : List ℕ) where
  -- a record that is not framed as an event
  pub malformed_answer : (Framed event_byte b → ⊥) → record_answer rs b ≡ refusal Malformed
  unfolding record_answer frame_answer
  malformed_answer h = go (frame_of b) ((frame_exactly b (frame_of b)).0 refl)
    where
      go : (f : Frame) → Says b f → frame_answer rs f (text_of b) ≡ refusal Malformed
      go LineRecord f = refl
      go EventRecord f = absurd (h f)
      go WrongLength f = refl
      go MalformedRecord f = refl

module _ (sh : Sheet) (b : List ℕ) where
  -- refused by the number told
  pub answer-refusal : (r : Request) → Told sh b r → r.kind ≡ Refusal → record_answer (roles_in sh) b ≡ refusal (verdict_by r.number)
  unfolding record_answer frame_answer text_answer
  answer-refusal _ (told-short h) e = rw h refl
  answer-refusal _ (told_malformed h) e = rw h refl
  answer-refusal _ (told_line h) e = let z : ◌≡◌ {A = ℕ} 0 1 = cc in absurd (omega arith)
  answer-refusal _ (told-event h (seen-refusal a)) e = rw (h, a) refl
  answer-refusal _ (told-event h (seen-event m a)) e = let z : ◌≡◌ {A = ℕ} 0 1 = cc in absurd (omega arith)

  -- "judge: not `E`"
  pub answer-line : (r : Request) → Told sh b r → r.kind ≡ Line → record_answer (roles_in sh) b ≡ refusal Malformed
  unfolding record_answer frame_answer
  answer-line r told e = rw (by_line sh b r told e) refl

  -- the event that is told
  pub answer-event : (r : Request) → Told sh b r → r.kind ≡ EventKind → (ws : Event) × Means sh r.event ws × (record_answer (roles_in sh) b ≡ an_event ws)
  unfolding record_answer frame_answer text_answer
  answer-event _ (told-short h) e = let z : ◌≡◌ {A = ℕ} 0 1 = cc in absurd (omega arith)
  answer-event _ (told_malformed h) e = let z : ◌≡◌ {A = ℕ} 0 1 = cc in absurd (omega arith)
  answer-event _ (told_line h) e = let z : ◌≡◌ {A = ℕ} 0 1 = cc in absurd (omega arith)
  answer-event _ (told-event h (seen-refusal a)) e = let z : ◌≡◌ {A = ℕ} 0 1 = cc in absurd (omega arith)
  answer-event _ (told-event h (seen-event {ws = ws} m a)) e = (ws, m, rw (h, a) refl)

-- what `ask` tells, as the judge hands it on
module _ (ns b : List ℕ) (r : Request) (asks : Asks ns b r) where
  pub event-refused : r.kind ≡ Refusal → EventAsked ns b (Err (refusal_by r.number))
  event-refused e =
      record {
        seven = seven-by_number r.number;
        right = λ sh naming q. gives_refusal (answer-refusal sh b r (asks.right sh naming q) e ∙ ap refusal (sym (verdict_by-number r.number)));
      }

  pub event-line : r.kind ≡ Line → EventAsked ns b (Err why.Malformed)
  event-line e = record { seven = refl; right = λ sh naming q. gives_refusal (answer-line sh b r (asks.right sh naming q) e) }

  pub event-given : r.kind ≡ EventKind → EventAsked ns b (Ok r.event)
  event-given e = record { seven = tt; right = λ sh naming q. let d = answer-event sh b r (asks.right sh naming q) e in gives_event d.1 d.2 }
