-- What an event's text asks, by the sheet's names: rows 4 and 6, or the work of the event.
-- Assumes nothing.
use Rattle.std.proofs.Common.{◌≡◌, refl, sym, ap, ◌∙◌, subst, Bool, true, false, not, List, [], ◌∷◌, map, ℕ, ◌<◌, ◌≤◌, length, take, take_at}
use Rattle.std.proofs.Math.Option.{Option, none, some}
use Rattle.std.proofs.lemmas.List.{length-map}
use Rattle.common.specs.Limits.{event_size}
use Rattle.lexer.specs.Words.{same}
use Rattle.common.proofs.Bools.{held_from, held-not}
use Rattle.grammar.specs.AsRead.{Line, role, rule, event}
use Rattle.grammar.specs.Valid.{ValidLine}
use Rattle.grammar.specs.Lines.{Says, read_event}
use Rattle.grammar.proofs.Language.{event-taken}
use Rattle.code.specs.Code.{id_of, lacks}
use Rattle.code.specs.Events.{event_told, event_said, event_line_of, event_of}
use Rattle.code.specs.Events.{EventLine}
use Rattle.code.proofs.EventLaws.{names-few}
use Rattle.common.specs.All.{All}
use Rattle.patterns.specs.Roles.{all_held}
use Rattle.follow.specs.declared.state.Sheet.{Sheet}
use Rattle.follow.proofs.CappedLaws.{capped_small}
use Rattle.intake.specs.Names.{Name, Event}
use Rattle.intake.specs.Asked.{refused_by, asks_event, asked_event}
use Rattle.intake.specs.Represents.{name_at, table_of, roles_in, NameWord, Naming}
use Rattle.intake.specs.Asking.{refusal, an_event, event_request, Means, EventSeen, seen-refusal, seen-event}
use Rattle.intake.specs.Requests.{Request}
use Rattle.intake.proofs.SaidNames.{said-names}
use Rattle.intake.proofs.TakenNames.{lacks_in, found_in}

-- the request made of what is read

module _ (l k : EventLine) (q : l ≡ k) where
  -- row 4
  pub event-none : (r : Request) → l.fits ≡ false → r ≡ refusal 4 → r ≡ event_request k
  unfolding event_request
  event-none r f h = h ∙ rw (sym q, f) refl

  -- row 6
  pub event_unknown : (r : Request) → l.fits ≡ true → l.unknown ≡ true → r ≡ refusal 6 → r ≡ event_request k
  unfolding event_request
  event_unknown r f u h = h ∙ rw (sym q, f, u) refl

  pub event-known : l.fits ≡ true → l.unknown ≡ false → an_event (record { len = l.len; roles = l.roles }) ≡ event_request k
  unfolding event_request
  event-known f u = rw (sym q, f, u) refl

-- the ids of names that are found
ids_found : (In : ℕ → Type 0) (g : Name → ℕ) (nm : ℕ → Name) (ws : List Name) → All (λ w. In (g w) × (nm (g w) ≡ w)) ws → All In (map g ws) × (map nm (map g ws) ≡ ws)
ids_found In g nm [] h = (tt, refl)
ids_found In g nm (w ∷ ws) h =
    let rest = ids_found In g nm ws h.1 in
    let e = rest.1 in
    let d = h.0.1 in
    ((h.0.0, rest.0), λ i. d i ∷ e i)

module _ (sh : Sheet) (n : Naming sh) (s : List ℕ) where
  abbrev table : List ℕ
  table = table_of sh

  -- what is asked by the text of the event ws
  module _ (ws : Event) (read : read_event s ≡ some (event ws)) where
    says : Says s (event ws)
    says = ((event-taken s (event ws)).0 read).0

    words : All NameWord ws
    words = said-names s (event ws) says

    few : length ws ≤ event_size
    unfolding ValidLine
    few = names-few event_size ws says.valid

    is_unknown : lacks table ws ≡ not (all_held same (roles_in sh) ws)
    is_unknown = lacks_in sh n ws words

    -- row 6
    unknown_asked : lacks table ws ≡ true → asked_event (roles_in sh) (read_event s) ≡ refused_by 6
    unfolding asked_event
    unknown_asked e = rw (read, held-not (all_held same (roles_in sh) ws) (sym is_unknown ∙ e)) refl

    module _ (e : lacks table ws ≡ false) where
      all_held_lem : all_held same (roles_in sh) ws ≡ true
      all_held_lem = held_from (all_held same (roles_in sh) ws) (sym is_unknown ∙ e)

      known-asked : asked_event (roles_in sh) (read_event s) ≡ asks_event ws
      unfolding asked_event
      known-asked = rw (read, all_held_lem) refl

      known_means : Means sh (record { len = (event_told table ws).len; roles = (event_told table ws).roles }) ws
      unfolding event_told
      known_means =
          let ids = ids_found (λ i. i < sh.role_count) (id_of table) (name_at sh) ws (found_in sh n ws words all_held_lem) in
          let event-is : event_of (record { len = (event_told table ws).len; roles = (event_told table ws).roles }) ≡ map (id_of table) ws =
          ap (λ (k : ℕ). take k (event_told table ws).roles) (capped_small event_size (length ws) few) ∙ take_at (map (id_of table) ws) _ (length ws) (length-map ws (id_of table)) in
          record { ids = subst (λ (x : List ℕ). All (λ i. i < sh.role_count) x) (sym event-is) ids.0; names = ap (map (name_at sh)) event-is ∙ ids.1 }

    told-seen : (q : Bool) → lacks table ws ≡ q → EventSeen sh s (event_request (event_told table ws))
    unfolding event_request event_told
    told-seen true e = rw e (seen-refusal (unknown_asked e))
    told-seen false e = subst (EventSeen sh s) (event-known (event_told table ws) (event_told table ws) refl refl e) (seen-event (known_means e) (known-asked e))

  said-seen : (o : Option Line) → read_event s ≡ o → EventSeen sh s (event_request (event_said table o))
  unfolding event_request event_said asked_event
  said-seen none e = seen-refusal {n = 4} (rw e refl)
  said-seen (some (role w p)) e = seen-refusal {n = 4} (rw e refl)
  said-seen (some (rule w p t x)) e = seen-refusal {n = 4} (rw e refl)
  said-seen (some (event ws)) e = told-seen ws e (lacks table ws) refl

  -- the request is what the text asks of the sheet
  pub event-seen : EventSeen sh s (event_request (event_line_of table s))
  event-seen = said-seen (read_event s) refl
