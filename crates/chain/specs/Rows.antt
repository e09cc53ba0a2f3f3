-- The responses worked, in order. Document 02, C-16: "Below an act stands one row for each response worked, in order".
-- Assumes nothing.
use Rattle.std.specs.Prelude.{List, [], ◌∷◌, ℕ, zero, suc, ◌-◌, Option, None, Some}
use Rattle.std.proofs.Math.Option as maybe
use Rattle.std.proofs.Math.Option.{none, some}
use Rattle.common.specs.Limits.{max_responses}
use Rattle.grammar.specs.Trees.{Response, pass, hold, send, anew}
use Rattle.patterns.specs.Meets.{Order}
use Rattle.chain.specs.Work.{Duty, fill, chain}
use Rattle.chain.specs.Responses.{word_of}
use Rattle.chain.specs.Steps.{Remaining}
use Rattle.chain.specs.declared.responses.Word.{Word}
use Rattle.chain.specs.declared.steps.End.{End}
use Rattle.chain.specs.declared.steps.WorkedResponse.{WorkedResponse}

-- a response worked: its rule, "the response's four-letter word", "the act as it reached that rule"
pub record ResponseRow (N R : Type 0) : Type 0 where
  pub rule : R
  pub word : Word
  pub event : List N

module _ {N R : Type 0} where
  -- no rows follow an unfit template
  abbrev pub if_fit : (List N → List (ResponseRow N R)) → maybe.Option (List N) → List (ResponseRow N R)
  if_fit go none = []
  if_fit go (some e) = go e

  -- the rows after a response; look, go and rest as in `respond`
  abbrev pub rows_after : (List N → List (Duty N R)) → (List (Duty N R) → List N → List (ResponseRow N R)) → List (Duty N R) → List N → Response N → List (ResponseRow N R)
  rows_after look go rest e pass = go rest e
  rows_after look go rest e hold = []
  rows_after look go rest e (send xs) = if_fit (λ x. go rest x) (fill e xs)
  rows_after look go rest e (anew xs) = if_fit (λ x. go (look x) x) (fill e xs)

  -- the row of a duty's response to the event that reached it
  abbrev pub row_of : Duty N R → List N → ResponseRow N R
  row_of d e = record { rule = d.rule; word = word_of d.response; event = e }

  -- the rows of a chain, as `work` works it
  unfoldable pub rows : (List N → List (Duty N R)) → ℕ → List (Duty N R) → List N → List (ResponseRow N R)
  rows look zero c e = []
  rows look (suc k) [] e = []
  rows look (suc k) (d ∷ rest) e = row_of d e ∷ rows_after look (λ c x. rows look k c x) rest e d.response

  -- the rows below an event
  unfoldable pub rows_event : Order N → List (Duty N R) → List N → List (ResponseRow N R)
  rows_event o ds e = rows (λ x. chain o ds x) max_responses (chain o ds e) e

-- the rows still to come
abbrev pub rows_from : (List ℕ → List (Duty ℕ ℕ)) → Remaining → List (ResponseRow ℕ ℕ)
rows_from look s = rows look (max_responses - s.worked) s.rest s.event

-- the rows l that follow a step, where the work goes on
abbrev pub while_going : Option End → List (ResponseRow ℕ ℕ) → List (ResponseRow ℕ ℕ)
while_going None l = l
while_going (Some d) l = []

-- the rows from a step on: that of the response worked, which the event e reached, and those after it
abbrev pub rows_of : Option WorkedResponse → List ℕ → List (ResponseRow ℕ ℕ) → List (ResponseRow ℕ ℕ)
rows_of None e l = []
rows_of (Some r) e l = record { rule = r.rule; word = r.word; event = e } ∷ l
