-- The same duties and outcomes under other names: f for a role's name, g for a rule's.
-- Assumes nothing.
use Rattle.std.specs.Prelude.{map}
use Rattle.grammar.specs.Rename.{map_pattern, map_response}
use Rattle.grammar.specs.Names.{pattern_names, response_names}
use Rattle.common.specs.All.{All}
use Rattle.chain.specs.Work.{Outcome, committed, held, unfit, too_long, Duty}

-- a duty under other names
abbrev pub map_duty : {M N R S : Type 0} → (M → N) → (R → S) → Duty M R → Duty N S
map_duty f g d = record { rule = g d.rule; matched = d.matched; trigger = map_pattern f d.trigger; response = map_response f d.response }

-- an outcome under other names
abbrev pub map_outcome : {M N R S : Type 0} → (M → N) → (R → S) → Outcome M R → Outcome N S
map_outcome f g (committed e n) = committed (map f e) n
map_outcome f g (held r n) = held (g r) n
map_outcome f g (unfit r n) = unfit (g r) n
map_outcome f g (too_long r) = too_long (g r)

-- every role that a duty names has In
pub record DutyIn {N R : Type 0} (In : N → Type 0) (d : Duty N R) : Type 0 where
  pub trigger : All In (pattern_names d.trigger)
  pub response : All In (response_names d.response)
