-- Document 01's printed runs, computed by the definition. Roles: 2 uv, 3 expose, others from 4 on. Rules are numbered in declared order.
-- Assumes nothing.
use Rattle.std.proofs.Common.{◌≡◌, refl, true, List, [], ◌∷◌, ◌++◌, ℕ, suc, replicate}
use Rattle.grammar.specs.Trees.{Pattern, plain, items, item, exact, close, any_event, Response, pass, hold, send, anew, named, place}
use Rattle.patterns.specs.Meets.{items_meet, meets}
use Rattle.patterns.specs.Judged.{order_by}
use Rattle.chain.specs.Work.{Outcome, committed, held, unfit, too_long, Duty, fill_slot, fill, chain, respond, work, work_event}

-- a rule whose past matches now
pub record Matched : Type 0 where
  pub trigger : Pattern ℕ
  pub response : Response ℕ

abbrev rule : Pattern ℕ → Response ℕ → Matched
rule t x = record { trigger = t; response = x }

abbrev always : Pattern ℕ
always = plain any_event

abbrev expose : Pattern ℕ
expose = plain (items (item (exact 3) close))

abbrev expose_uv : Pattern ℕ
expose_uv = plain (items (item (exact 3) (item (exact 2) close)))

-- rules in declared order, numbered from i on, turned round
abbrev declared : ℕ → List Matched → List (Duty ℕ ℕ) → List (Duty ℕ ℕ)
declared i [] ds = ds
declared i (g ∷ gs) ds = declared (suc i) gs (record { rule = i; matched = true; trigger = g.trigger; response = g.response } ∷ ds)

abbrev run : List Matched → List ℕ → Outcome ℕ ℕ
run gs e = work_event (order_by []) (declared 0 gs []) e

abbrev sends : Matched
sends = rule expose (send (named 3 ∷ named 2 ∷ []))

abbrev asks : Matched
asks = rule expose (anew (named 3 ∷ named 2 ∷ []))

-- "act expose gives C 02, expose uv"
pub sent : run (sends ∷ rule expose pass ∷ []) (3 ∷ []) ≡ committed (3 ∷ 2 ∷ []) 2
unfolding work_event work respond chain fill fill_slot meets items_meet
sent = refl

-- "A third rule holding `<expose uv>` isn't consulted"
pub not_consulted : run (sends ∷ rule expose pass ∷ rule expose_uv hold ∷ []) (3 ∷ []) ≡ committed (3 ∷ 2 ∷ []) 2
unfolding work_event work respond chain fill fill_slot meets items_meet
not_consulted = refl

-- "with anew it is, H 03"
pub consulted : run (asks ∷ rule expose pass ∷ rule expose_uv hold ∷ []) (3 ∷ []) ≡ held 2 3
unfolding work_event work respond chain fill fill_slot meets items_meet
consulted = refl

-- "A lone anew of the same act: T 64."
pub lone : run (rule expose (anew (place 1 ∷ [])) ∷ []) (3 ∷ []) ≡ too_long 0
unfolding work_event work respond chain fill fill_slot meets items_meet
lone = refl

abbrev hop : ℕ → Matched
hop r = rule (plain (items (item (exact r) close))) (anew (named (suc r) ∷ []))

-- "Four anew hops through five roles, then 12 pass rules on any: C 64."
pub four_hops_lem : run ((hop 3 ∷ hop 4 ∷ hop 5 ∷ hop 6 ∷ []) ++ replicate 12 (rule always pass)) (3 ∷ []) ≡ committed (7 ∷ []) 64
unfolding work_event work respond chain fill fill_slot meets items_meet
four_hops_lem = refl

-- "Five hops through six roles, then 10 passes: T 64, the first declared pass."
pub five_hops_lem : run ((hop 3 ∷ hop 4 ∷ hop 5 ∷ hop 6 ∷ hop 7 ∷ []) ++ replicate 10 (rule always pass)) (3 ∷ []) ≡ too_long 5
unfolding work_event work respond chain fill fill_slot meets items_meet
five_hops_lem = refl

-- an unfit template counts as worked and decides
pub beyond : run (rule always (send (place 1 ∷ place 2 ∷ [])) ∷ rule always pass ∷ []) (3 ∷ []) ≡ unfit 0 2
unfolding work_event work respond chain fill fill_slot meets items_meet
beyond = refl

-- the 64th response may hold or be unfit: 15 passes before each of three hops, and before the last rule
abbrev hops : Response ℕ → List Matched
hops x = (hop 3 ∷ hop 4 ∷ hop 5 ∷ rule (plain (items (item (exact 6) close))) x ∷ []) ++ replicate 15 (rule always pass)

pub hold_64 : run (hops hold) (3 ∷ []) ≡ held 3 64
unfolding work_event work respond chain fill fill_slot meets items_meet
hold_64 = refl

pub unfit_64 : run (hops (send (place 2 ∷ []))) (3 ∷ []) ≡ unfit 3 64
unfolding work_event work respond chain fill fill_slot meets items_meet
unfit_64 = refl

-- a 65th due response is too long before it is looked at, a hold too
pub hold_65 : run (hops (anew (named 7 ∷ [])) ++ (rule (plain (items (item (exact 7) close))) hold ∷ [])) (3 ∷ []) ≡ too_long 19
unfolding work_event work respond chain fill fill_slot meets items_meet
hold_65 = refl
