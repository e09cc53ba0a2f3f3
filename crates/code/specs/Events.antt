-- What reading an event's text tells, with ids for the names held.
-- Assumes nothing.
use Rattle.std.specs.Prelude.{Bool, true, false, cond, List, [], ◌∷◌, ◌++◌, map, ℕ, ◌-◌, leb, length, take, replicate, Result, Ok, Err, Some, None}
use Rattle.std.specs.Prelude as Maybe
use Rattle.std.proofs.Math.Option.{Option, none, some}
use Rattle.common.specs.Limits.{event_size}
use Rattle.common.specs.declared.refusals.Refusal.{Refusal}
use Rattle.common.specs.declared.refusals.Refusal.TheVariants.{NotInLanguage, NotDeclared}
use Rattle.grammar.specs.AsRead.{Line, role, rule, event}
use Rattle.grammar.specs.Lines.{read_event}
use Rattle.code.specs.Code.{id_of, lacks}
use Rattle.code.specs.declared.events.Event.{Event}

-- the roles of an event (document 01: act), as ids: the first four where its length is more than that
abbrev pub event_of : Event → List ℕ
event_of e = take (cond (leb e.len event_size) e.len event_size) e.roles

-- what an event's text tells: whether it is in the language; if it is, whether one of its names has no id, and the ids of its roles, of which len count
pub record EventLine : Type 0 where
  pub fits : Bool
  pub unknown : Bool
  pub len : ℕ
  pub roles : List ℕ

-- what is told of a text that is not in the language
abbrev pub no_event : EventLine
no_event = record { fits = false; unknown = false; len = 0; roles = 0 ∷ 0 ∷ 0 ∷ 0 ∷ [] }

-- what is told of an event: the ids of its roles with 0 after them, how many they are, and whether one has no id (refusal 6)
unfoldable pub event_told : List ℕ → List (List ℕ) → EventLine
event_told ns ws = record { fits = true; unknown = lacks ns ws; len = length ws; roles = map (id_of ns) ws ++ replicate (event_size - length ws) 0 }

-- "Act text: zero to four names.": what is told by what the text says; where that is no event, that it is not in the language (refusal 4)
unfoldable pub event_said : List ℕ → Option Line → EventLine
event_said ns none = no_event
event_said ns (some (role w p)) = no_event
event_said ns (some (rule w p t x)) = no_event
event_said ns (some (event ws)) = event_told ns ws

-- what is told of any text
abbrev pub event_line_of : List ℕ → List ℕ → EventLine
event_line_of ns s = event_said ns (read_event s)

-- what is told, as the code answers it: refusal 4, refusal 6, or the event
abbrev pub event_answer : EventLine → Result Event Refusal
event_answer l = cond l.fits (cond l.unknown (Err NotDeclared) (Ok (record { len = l.len; roles = l.roles }))) (Err NotInLanguage)

-- the same with the ids: the event and whether one of its names has no id, or the event alone; None where the text is not in the language
abbrev pub read_answer : EventLine → Maybe.Option (Event × Bool)
read_answer l = cond l.fits (Some (record { len = l.len; roles = l.roles }, l.unknown)) None

abbrev pub ids_answer : EventLine → Maybe.Option Event
ids_answer l = cond l.fits (Some (record { len = l.len; roles = l.roles })) None
