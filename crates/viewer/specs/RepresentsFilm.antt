-- When a state stands for a film: it represents the machine with the positions after each rule's events.
-- Assumes nothing.
use Rattle.std.specs.Prelude.{◌≡◌, true, map}
use Rattle.common.specs.All.{All}
use Rattle.lexer.specs.Words.{same}
use Rattle.patterns.specs.Roles.{all_held}
use Rattle.follow.specs.declared.state.State.{State}
use Rattle.intake.specs.Names.{Roles}
use Rattle.intake.specs.Machine.{PositionRule, PositionMachine, start_number, number_after}
use Rattle.intake.specs.Represents.{Represents}
use Rattle.viewer.specs.Film.{Watched, Film}

-- a rule with the positions after its events
abbrev pub watched_rule : Roles → Watched → PositionRule
watched_rule rs x = record { rule = x.rule; positions = number_after rs x.rule.past start_number x.events }

-- the film taken to positions
abbrev pub film_machine : Film → PositionMachine
film_machine m = record { roles = m.roles; rules = map (watched_rule m.roles) m.rules }

-- the roles of all events that a rule has seen are held
abbrev pub SeenHeld : Roles → Watched → Type 0
SeenHeld rs x = All (λ e. all_held same rs e ≡ true) x.events

-- a state stands for a film
pub record RepresentsFilm (f : State) (m : Film) : Type 0 where
  pub represents : Represents f (film_machine m)
  pub held : All (SeenHeld m.roles) m.rules
