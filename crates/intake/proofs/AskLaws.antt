-- What a record asks, by its frame.
-- Assumes nothing.
use Rattle.std.proofs.Common.{◌≡◌, refl, sym, ap, ◌∙◌, subst, List, ℕ, ◌≤◌, Bool, true, false, cond, Ok, Err, arith, length, drop, length-take}
use Rattle.common.specs.Refusals.{refusal_number}
use Rattle.common.specs.declared.refusals.Refusal.{Refusal}
use Rattle.common.specs.declared.refusals.Refusal.TheVariants.{RecordLength, Malformed as MalformedRecord, NotDeclared, NotInLanguage}
use Rattle.frame.specs.declared.records.RecordKind.TheVariants.{Line as LineKind, Event as EventKind}
use Rattle.frame.specs.Text.{text_of}
use Rattle.frame.specs.Record.{Frame, Line, Event, WrongLength, Malformed, frame_of, answered}
use Rattle.code.specs.Events.{EventLine, event_line_of, event_answer}
use Rattle.follow.specs.declared.state.Sheet.{Sheet}
use Rattle.intake.specs.Represents.{table_of, Naming}
use Rattle.intake.specs.Asking.{refusal, a_line, an_event, event_as, event_request, request_by, request_of, Told, told-short, told_malformed, told_line, told-event, Asks}
use Rattle.intake.specs.Requests.{Request}
use Rattle.intake.proofs.EventLaws.{event-seen}

pub text-small : (s : List ℕ) → length (text_of s) ≤ 126
unfolding text_of
text-small s = let h = length-take 126 (drop 1 s) in omega arith

module _ (sh : Sheet) (n : Naming sh) (b : List ℕ) where
  told_by : (k : Frame) → frame_of b ≡ k → Told sh b (request_by (table_of sh) k (text_of b))
  unfolding request_by
  told_by Line e = told_line e
  told_by Event e = told-event e (event-seen sh n (text_of b))
  told_by WrongLength e = told-short e
  told_by Malformed e = told_malformed e

  -- the request is what the record asks of the sheet
  pub request_told : Told sh b (request_of (table_of sh) b)
  request_told = told_by (frame_of b) refl

module _ (ns b : List ℕ) (r : Request) where
  asks : r ≡ request_of ns b → Asks ns b r
  asks e = record { is = e; right = λ sh n q. subst (Told sh b) (sym e) (subst (λ (l : List ℕ). Told sh b (request_of l b)) (sym q) (request_told sh n b)) }

  by_frame : (k : Frame) → frame_of b ≡ k → r ≡ request_by ns k (text_of b) → Asks ns b r
  by_frame k e h = asks (rw e h)

  pub ask_line : frame_of b ≡ Line → r ≡ a_line → Asks ns b r
  unfolding request_by
  ask_line e h = by_frame Line e h

  pub ask_event : frame_of b ≡ Event → r ≡ event_request (event_line_of ns (text_of b)) → Asks ns b r
  unfolding request_by
  ask_event e h = by_frame Event e h

  -- rows 2 and 3
  pub ask_refused : (e : Refusal) → answered (frame_of b) ≡ Err e → r ≡ refusal (refusal_number e) → Asks ns b r
  unfolding request_by
  ask_refused e h q = go (frame_of b) refl h
    where
      go : (k : Frame) → frame_of b ≡ k → answered k ≡ Err e → Asks ns b r
      go Line f a = cc
      go Event f a = cc
      go WrongLength f a = let s : RecordLength ≡ e = cc in by_frame WrongLength f (q ∙ ap (λ x. refusal (refusal_number x)) (sym s))
      go Malformed f a = let s : MalformedRecord ≡ e = cc in by_frame Malformed f (q ∙ ap (λ x. refusal (refusal_number x)) (sym s))

-- a frame that is answered as a line
pub frame_line : (k : Frame) → answered k ≡ Ok LineKind → k ≡ Line
frame_line Line h = refl
frame_line Event h = cc
frame_line WrongLength h = cc
frame_line Malformed h = cc

-- a frame that is answered as an event
pub frame_event : (k : Frame) → answered k ≡ Ok EventKind → k ≡ Event
frame_event Line h = cc
frame_event Event h = refl
frame_event WrongLength h = cc
frame_event Malformed h = cc

-- an event's answer, as a request
pub event_answered : (l : EventLine) → event_as (event_answer l) ≡ event_request l
unfolding event_request
event_answered l = go l.fits l.unknown
  where
    go : (a b : Bool) → event_as (cond a (cond b (Err NotDeclared) (Ok (record { len = l.len; roles = l.roles }))) (Err NotInLanguage))
        ≡ cond a (cond b (refusal 6) (an_event (record { len = l.len; roles = l.roles }))) (refusal 4)
    go true true = refl
    go true false = refl
    go false b = refl
