-- What asking promises: `ask` tells what a record asks, by the names of the roles held; nothing is declared and nothing changes.
-- Assumes nothing.
use Rattle.std.specs.Prelude.{◌≡◌, cond, Result, Ok, Err, List, [], ◌∷◌, map, ℕ, ◌<◌}
use Rattle.grammar.specs.Lines.{read_event}
use Rattle.frame.specs.Text.{text_of}
use Rattle.frame.specs.Record.{refusal as number_of, frame_of}
use Rattle.frame.specs.Record.{Frame}
use Rattle.frame.specs.Record.{Line as LineRecord, Event as EventRecord, WrongLength, Malformed as MalformedRecord}
use Rattle.code.specs.Events.{event_line_of, event_of}
use Rattle.code.specs.Events.{EventLine}
use Rattle.common.specs.All.{All}
use Rattle.common.specs.Refusals.{refusal_number}
use Rattle.common.specs.declared.refusals.Refusal as why
use Rattle.code.specs.declared.events.Event as kept
use Rattle.follow.specs.declared.state.Sheet.{Sheet}
use Rattle.intake.specs.Names.{Event}
use Rattle.intake.specs.Asked.{refused_by, asks_event, asked_event}
use Rattle.intake.specs.Represents.{name_at, table_of, roles_in, Naming}
use Rattle.intake.specs.Requests.{Refusal, Line, Event as EventKind, Request}
use Rattle.intake.specs.declared.asks.Request as asked
use Rattle.intake.specs.declared.asks.Request.TheVariants.{Line as AsksLine, Event as AsksEvent}

-- no event
abbrev pub no_event : kept.Event
no_event = record { len = 0; roles = 0 ∷ 0 ∷ 0 ∷ 0 ∷ [] }

-- refused by row n
abbrev pub refusal : ℕ → Request
refusal n = record { kind = Refusal; number = n; event = no_event }

-- a line, to be declared
abbrev pub a_line : Request
a_line = record { kind = Line; number = 0; event = no_event }

-- an event, to be worked
abbrev pub an_event : kept.Event → Request
an_event e = record { kind = EventKind; number = 0; event = e }

-- an answer of `ask` as a request
abbrev pub request_as : Result asked.Request why.Refusal → Request
request_as (Ok AsksLine) = a_line
request_as (Ok (AsksEvent e)) = an_event e
request_as (Err r) = refusal (refusal_number r)

-- the same where an event is asked for
abbrev pub event_as : Result kept.Event why.Refusal → Request
event_as (Ok e) = an_event e
event_as (Err r) = refusal (refusal_number r)

-- what an event's text asks, by what is read of it: row 4 "text not in the language", row 6 "a role used (.. in an act) isn't declared", or the event
unfoldable pub event_request : EventLine → Request
event_request l = cond l.fits (cond l.unknown (refusal 6) (an_event (record { len = l.len; roles = l.roles }))) (refusal 4)

-- rows 2 and 3, a line, or what the text of an event asks: "Byte 0 is `L` (a line) or `E` (an act)."
unfoldable pub request_by : List ℕ → Frame → List ℕ → Request
request_by ns LineRecord s = a_line
request_by ns EventRecord s = event_request (event_line_of ns s)
request_by ns WrongLength s = refusal (number_of WrongLength)
request_by ns MalformedRecord s = refusal (number_of MalformedRecord)

-- what any bytes ask, by any packed names ns
abbrev pub request_of : List ℕ → List ℕ → Request
request_of ns b = request_by ns (frame_of b) (text_of b)

-- the event e with ids stands for the event ws by names
pub record Means (s : Sheet) (e : kept.Event) (ws : Event) : Type 0 where
  pub ids : All (λ i. i < s.role_count) (event_of e)
  pub names : map (name_at s) (event_of e) ≡ ws

-- what is told of the text s of an event's record: rows 4 and 6, or the work of the event
pub data EventSeen (sh : Sheet) (s : List ℕ) : Request → Type 0 where
  seen-refusal : {n : ℕ} → asked_event (roles_in sh) (read_event s) ≡ refused_by n → EventSeen sh s (refusal n)
  seen-event : {e : kept.Event} {ws : Event} → Means sh e ws → asked_event (roles_in sh) (read_event s) ≡ asks_event ws → EventSeen sh s (an_event e)

-- What is told of the record b, by its frame: rows 2 and 3; a line, which the rules decide on (specs/Declaring.antt); or what the text of an event asks.
pub data Told (sh : Sheet) (b : List ℕ) : Request → Type 0 where
  told-short : frame_of b ≡ WrongLength → Told sh b (refusal (number_of WrongLength))
  told_malformed : frame_of b ≡ MalformedRecord → Told sh b (refusal (number_of MalformedRecord))
  told_line : frame_of b ≡ LineRecord → Told sh b a_line
  told-event : {r : Request} → frame_of b ≡ EventRecord → EventSeen sh (text_of b) r → Told sh b r

-- what asking promises: of any packed names ns, which request it is; of the names of a sheet, what the record asks
pub record Asks (ns b : List ℕ) (r : Request) : Type 0 where
  pub is : r ≡ request_of ns b
  pub right : (sh : Sheet) → Naming sh → ns ≡ table_of sh → Told sh b r
