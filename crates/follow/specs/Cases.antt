-- Document 01, "Past cases, proved together": the fourteen cases as one table of printed text. `cases-right` of proofs/CasesRight.antt proves the
-- whole table of Appendix A; the same file computes the same answers by positions, and by the numbers that the code computes.
-- Assumes nothing.
use Rattle.std.specs.Prelude.{◌≡◌, Bool, true, false, ◌↔◌, ℕ, length, List, [], ◌∷◌, map}
use mathlib.Core.List.{foldl}
use Rattle.std.proofs.Math.Option.{Option, none, some}
use Prim.Native.String.{String}
use Rattle.lexer.specs.Words.{same}
use Rattle.lexer.specs.Tokens.{tokens}
use Rattle.grammar.specs.AsRead as read
use Rattle.grammar.specs.AsRead.{Pattern, role, rule, event}
use Rattle.grammar.specs.Spell.{spell_past}
use Rattle.grammar.specs.Valid.{ValidPast}
use Rattle.grammar.specs.Parsed.{wholly}
use Rattle.grammar.specs.Parser.{past_of, depth}
use Rattle.grammar.specs.Lines.{Says, read_event}
use Rattle.grammar.specs.Text.{bytes_of}
use Rattle.patterns.specs.Roles.{Roles, fresh_roles}
use Rattle.patterns.specs.Meets.{order_of, meets}
use Rattle.positions.specs.Past.{Past, Sat}
use Rattle.positions.specs.Matcher.{matches}
use Rattle.positions.specs.Positions.{at_start}
use Rattle.positions.specs.Walk.{steps, matches_now}
use Rattle.common.specs.Sets.{shares}
use Rattle.positions.specs.Summaries.{summary, step_of, ends_of}
use Rattle.follow.specs.Meaning.{past_meaning}

-- a case: a past and a list of events (document 01: acts) as printed, and the answer, true for yes
pub record Case : Type 0 where
  pub past : String
  pub events : List String
  pub answer : Bool

-- a row with the answer yes
abbrev pub yes : String → List String → Case
yes p l = record { past = p; events = l; answer = true }

-- a row with the answer no
abbrev pub no : String → List String → Case
no p l = record { past = p; events = l; answer = false }

-- "These fourteen form a table"; "commas part acts": each event is a text of its own, that of no roles the empty text
abbrev pub cases : List Case
cases =
    yes "()" []
    ∷ no "()" ("uv" ∷ [])
    ∷ yes "any*" []
    ∷ yes "<+lamp>" ("uv" ∷ [])
    ∷ yes "<+lamp>" ("lamp" ∷ [])
    ∷ no "<lamp>" ("uv" ∷ [])
    ∷ no "(<uv><lamp>)*" ("uv" ∷ "lamp" ∷ "uv" ∷ [])
    ∷ yes "(<uv><lamp>)*" ("uv" ∷ "lamp" ∷ "uv" ∷ "lamp" ∷ [])
    ∷ yes "[not <uv>]*<uv>any*" ("expose" ∷ "uv" ∷ "lamp" ∷ [])
    ∷ no "<uv>" ("uv lamp" ∷ [])
    ∷ yes "<uv *>" ("uv lamp" ∷ [])
    ∷ no "[not any]" ("uv" ∷ [])
    ∷ yes "any" ("" ∷ [])
    ∷ yes "(()+<uv>)*<lamp>" ("lamp" ∷ [])
    ∷ []

-- Rows that are not document 01's. The fourteen cannot tell a role below its direct parent alone, nor either as both; these do.
abbrev pub further : List Case
further =
    yes "<+top>" ("uv" ∷ [])
    ∷ yes "<uv>+<lamp>" ("uv" ∷ [])
    ∷ yes "<uv>+<lamp>" ("lamp" ∷ [])
    ∷ no "<uv>+<lamp>" ("uv" ∷ "lamp" ∷ [])
    ∷ []

-- an event: its roles' names, each by its bytes
abbrev pub Event : Type 0
Event = List (List ℕ)

-- "roles as above": `role lamp under top`, `role uv under lamp`, `role expose under top`, the last declared first
abbrev pub roles : Roles (List ℕ)
roles =
    record { name = bytes_of "expose"; parent = bytes_of "top" }
    ∷ record { name = bytes_of "uv"; parent = bytes_of "lamp" }
    ∷ record { name = bytes_of "lamp"; parent = bytes_of "top" }
    ∷ fresh_roles (bytes_of "top")

-- when an event meets a pattern, by these roles
abbrev pub met : Event → Pattern → Bool
met = meets (order_of same roles)

-- A text says a past: its tokens spell it. With no parser, as `Says` of a whole line.
pub record SaysPast (s : List ℕ) (p : read.Past) : Type 0 where
  pub valid : ValidPast p
  pub spelled : tokens s ≡ spell_past p

-- each text says the event at its place
pub data SaysEvents : List String → List Event → Type 0 where
  says_none : SaysEvents [] []
  says-more : {s : String} {ss : List String} {e : Event} {es : List Event} → Says (bytes_of s) (event e) → SaysEvents ss es → SaysEvents (s ∷ ss) (e ∷ es)

-- What a case claims: its texts are in the language, and its answer is yes exactly where the events match the past by Appendix A.
pub record Claim (c : Case) : Type 0 where
  pub past : read.Past
  pub events : List Event
  pub past_said : SaysPast (bytes_of c.past) past
  pub events_said : SaysEvents c.events events
  pub right : (c.answer ≡ true) ↔ Sat met events (past_meaning past)

-- THE SAME, COMPUTED

-- what the texts say, read by the grammar's parsers
abbrev pub read_past : String → Option read.Past
read_past s = wholly (past_of (depth (length (bytes_of s))) (tokens (bytes_of s)))

-- an event read and those after it, where each text is an event
abbrev pub joined : Option read.Line → Option (List Event) → Option (List Event)
joined none es = none
joined (some (role w p)) es = none
joined (some (rule w p t x)) es = none
joined (some (event e)) none = none
joined (some (event e)) (some es) = some (e ∷ es)

-- the events that texts say
abbrev pub read_events : List String → Option (List Event)
read_events [] = some []
read_events (s ∷ ss) = joined (read_event (bytes_of s)) (read_events ss)

-- a way to answer whether a list of events matches a past
abbrev pub Way : Type 0
Way = Past Pattern → List Event → Bool

-- by trying every way to cut the list
abbrev pub by_matcher : Way
by_matcher φ l = matches met φ l

-- by positions: from the start, one step for each event
abbrev pub by_positions : Way
by_positions φ l = matches_now φ (steps met φ at_start l)

-- by the numbers that the code computes: from 1, position 0 alone, one step for each event
abbrev pub by_numbers : Way
by_numbers φ l = shares (foldl (λ m e. step_of m (summary m (met e) φ 1)) 1 l) (ends_of (summary 0 (λ p. false) φ 1))

-- the answer to a past and events that were read
abbrev pub answered : Way → Option read.Past → Option (List Event) → Option Bool
answered way none l = none
answered way (some p) none = none
answered way (some p) (some l) = some (way (past_meaning p) l)

-- the computed answer of each case, and the printed one
abbrev pub computed : Way → List Case → List (Option Bool)
computed way cs = map (λ c. answered way (read_past c.past) (read_events c.events)) cs

-- the answers as document 01 prints them
abbrev pub printed : List Case → List (Option Bool)
printed cs = map (λ c. some c.answer) cs

-- all three ways give the printed answers
abbrev pub Agree : List Case → Type 0
Agree cs = (computed by_matcher cs ≡ printed cs) × (computed by_positions cs ≡ printed cs) × (computed by_numbers cs ≡ printed cs)
