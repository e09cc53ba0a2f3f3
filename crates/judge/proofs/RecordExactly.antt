-- A record of 128 bytes is answered exactly as rows 3, 4 and 6 say.
-- Assumes nothing.
use Rattle.std.proofs.Common.{◌≡◌, refl, ap, ◌∙◌, Bool, true, false, List, ℕ, arith, length}
use Rattle.std.proofs.Math.Option.{Option, none, some}
use Rattle.lexer.specs.Words.{same}
use Rattle.common.proofs.Bools.{true_not_false}
use Rattle.grammar.specs.AsRead.{Line, role, rule, event}
use Rattle.grammar.specs.Lines.{Says, read_event}
use Rattle.grammar.proofs.Language.{event-taken, event-refused}
use Rattle.frame.specs.Text.{text_of}
use Rattle.frame.specs.Record.{event_byte, frame_of}
use Rattle.frame.specs.Framed.{Framed, Fault, kindless, endless, classless, Says as Frames}
use Rattle.frame.specs.Record.{Frame}
use Rattle.frame.specs.Record.{Line as LineRecord, Event as EventRecord, WrongLength, Malformed as MalformedRecord}
use Rattle.frame.proofs.FrameLaws.{frame_exactly}
use Rattle.patterns.specs.Roles.{all_held}
use Rattle.intake.specs.Asked.{asks_event, check, asked_event}
use Rattle.intake.specs.Names.{Event, Roles}
use Rattle.judge.specs.Judge.{RecordAnswer, an_event, refusal, answer_by, text_answer, frame_answer, record_answer, number_of}
use Rattle.judge.proofs.RecordLaws.{malformed_answer}
use Rattle.judge.specs.Rows.{Act, RecordRefused, record_3, record_3_line, record_4, record_6}
use Rattle.judge.specs.Verdict.{Verdict, Malformed, NotInLanguage, Unknown}

module _ (rs : Roles) (s : List ℕ) where
  -- what a record is that gives this
  abbrev pub RecordAnswers : RecordAnswer → Type 0
  RecordAnswers (an_event e) = Act rs s e
  RecordAnswers (refusal v) = RecordRefused rs s (number_of v)

  text-answers : Framed event_byte s → (o : Option Line) → read_event (text_of s) ≡ o → RecordAnswers (text_answer rs o)
  unfolding text_answer asked_event
  text-answers f none q = record_4 f ((event-refused (text_of s)).0 q)
  text-answers f (some (role w p)) q = absurd (true_not_false false ((event-taken (text_of s) (role w p)).0 q).1 refl)
  text-answers f (some (rule w p t x)) q = absurd (true_not_false false ((event-taken (text_of s) (rule w p t x)).0 q).1 refl)
  text-answers f (some (event e)) q = go (all_held same rs e) refl
    where
      said : Says (text_of s) (event e)
      said = ((event-taken (text_of s) (event e)).0 q).0

      go : (b : Bool) → all_held same rs e ≡ b → RecordAnswers (answer_by (check b 6 (asks_event e)))
      go true h = record { framed = f; says = said; known = h }
      go false h = record_6 f said h

  frame_answers : length s ≡ 128 → (f : Frame) → Frames s f → RecordAnswers (frame_answer rs f (text_of s))
  unfolding frame_answer
  frame_answers n LineRecord h = record_3_line (λ e. omega (arith, h.first, e))
  frame_answers n EventRecord h = text-answers h (read_event (text_of s)) refl
  frame_answers n WrongLength h = absurd (h n)
  frame_answers n MalformedRecord h = record_3 h.1

  pub record_answers : length s ≡ 128 → RecordAnswers (record_answer rs s)
  unfolding record_answer
  record_answers n = frame_answers n (frame_of s) ((frame_exactly s (frame_of s)).0 refl)

  -- AND BACK

  event-framed : Framed event_byte s → record_answer rs s ≡ text_answer rs (read_event (text_of s))
  unfolding record_answer frame_answer
  event-framed f = ap (λ (x : Frame). frame_answer rs x (text_of s)) ((frame_exactly s EventRecord).1 f)

  pub act_answer : (e : Event) → Act rs s e → record_answer rs s ≡ an_event e
  unfolding text_answer asked_event
  act_answer e a = event-framed a.framed ∙ ap (text_answer rs) ((event-taken (text_of s) (event e)).1 (a.says, refl)) ∙ rw a.known refl

  -- with a fault it is not framed
  fault_unframed : Fault s → Framed event_byte s → ⊥
  fault_unframed (kindless l h) f = h f.first
  fault_unframed (endless h) f = h f.end
  fault_unframed (classless i l m e) f = f.classed i l m e

  pub refusal-answer : (k : ℕ) → RecordRefused rs s k → (v : Verdict) × (record_answer rs s ≡ refusal v) × (number_of v ≡ k)
  unfolding text_answer asked_event
  refusal-answer k (record_3 f) = (Malformed, malformed_answer rs s (fault_unframed f), refl)
  refusal-answer k (record_3_line h) = (Malformed, malformed_answer rs s (λ f. h f.first), refl)
  refusal-answer k (record_4 f h) = (NotInLanguage, event-framed f ∙ ap (text_answer rs) ((event-refused (text_of s)).1 h), refl)
  refusal-answer k (record_6 {e = e} f h u) = (Unknown, event-framed f ∙ ap (text_answer rs) ((event-taken (text_of s) (event e)).1 (h, refl)) ∙ rw u refl, refl)
