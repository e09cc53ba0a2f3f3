-- Working an act. Document 01, "Working an act"; source document 004, section 4. An event is document 01's act.
-- N stands for a role's name and R for a rule's: their bytes, or ids. Rules stand the last declared first.
-- Assumes nothing.
use Rattle.std.specs.Prelude.{Bool, cond, ◌&&◌, List, [], ◌∷◌, ℕ, zero, suc, ◌-◌}
use Rattle.std.proofs.Math.Option.{Option, none, some}
use Rattle.std.proofs.Math.ListN.{get_elem?}
use Rattle.common.specs.Limits.{max_responses}
use Rattle.grammar.specs.Trees.{Pattern, Slot, named, place, Template, Response, pass, hold, send, anew}
use Rattle.patterns.specs.Meets.{Order, meets}

-- how the work ends, with the count of responses worked and the deciding rule
pub data Outcome (N R : Type 0) : Type 0 where
  committed : List N → ℕ → Outcome N R
  held : R → ℕ → Outcome N R
  unfit : R → ℕ → Outcome N R
  too_long : R → Outcome N R

-- a rule as the chain sees it: whether its past matches now, its trigger and its response
pub record Duty (N R : Type 0) : Type 0 where
  pub rule : R
  pub matched : Bool
  pub trigger : Pattern N
  pub response : Response N

-- "A slot is a name or `#` and one of 1 2 3 4, the place in the act."
unfoldable pub fill_slot : {N : Type 0} → List N → Slot N → Option N
fill_slot e (named w) = some w
fill_slot e (place n) = get_elem? e (n - 1)

-- a slot filled, and the slots after it; none where either is unfit
abbrev pub cons_filled : {N : Type 0} → Option N → Option (List N) → Option (List N)
cons_filled none e = none
cons_filled (some n) none = none
cons_filled (some n) (some e) = some (n ∷ e)

-- the event made by a template, or none: "A template that names a place beyond the act's length"
unfoldable pub fill : {N : Type 0} → List N → Template N → Option (List N)
fill e [] = some []
fill e (x ∷ xs) = cons_filled (fill_slot e x) (fill e xs)

module _ {N R : Type 0} where
  -- "The chain is fixed at that moment: rules whose past matches and whose trigger the act meets. The last declared works first."
  unfoldable pub chain : Order N → List (Duty N R) → List N → List (Duty N R)
  chain o [] e = []
  chain o (d ∷ ds) e = cond (d.matched && meets o e d.trigger) (d ∷ chain o ds e) (chain o ds e)

  -- "is unfit and ends the work; it counts as worked and decides"
  abbrev pub onward : (List N → Outcome N R) → R → ℕ → Option (List N) → Outcome N R
  onward go r n none = unfit r n
  onward go r n (some e) = go e

  -- "Pass hands on to the next. Send hands on the act made by its template, to the same chain. Anew drops the rest and looks up a new chain for
  -- the act made, which stands before commit again. Hold ends." look: the chain of an event; go: the work that follows; r, n: the rule, and the
  -- count with it; rest: what is left of the chain.
  unfoldable pub respond : (List N → List (Duty N R)) → (List (Duty N R) → List N → Outcome N R) → R → ℕ → List (Duty N R) → List N → Response N → Outcome N R
  respond look go r n rest e pass = go rest e
  respond look go r n rest e hold = held r n
  respond look go r n rest e (send xs) = onward (λ x. go rest x) r n (fill e xs)
  respond look go r n rest e (anew xs) = onward (λ x. go (look x) x) r n (fill e xs)

  -- "Past the end of the chain the act is committed"; "Too long: 64 worked and another due; the due rule decides." The number: responses left to 64.
  unfoldable pub work : (List N → List (Duty N R)) → ℕ → List (Duty N R) → List N → Outcome N R
  work look zero [] e = committed e max_responses
  work look zero (d ∷ rest) e = too_long d.rule
  work look (suc k) [] e = committed e (max_responses - suc k)
  work look (suc k) (d ∷ rest) e = respond look (λ c x. work look k c x) d.rule (max_responses - k) rest e d.response

  -- "an accepted act stands before commit"
  unfoldable pub work_event : Order N → List (Duty N R) → List N → Outcome N R
  work_event o ds e = work (λ x. chain o ds x) max_responses (chain o ds e) e
