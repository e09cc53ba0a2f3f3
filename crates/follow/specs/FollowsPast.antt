-- What it is for a state to follow a rule's past: the rule keeps the past, and its positions are document 01's marks for the events since its declaration.
-- Assumes nothing.
use Rattle.std.specs.Prelude.{List, ℕ, ◌<◌, ◌≤◌, get_or}
use Rattle.grammar.specs.Size.{size_past}
use Rattle.common.specs.All.{All}
use Rattle.patterns.specs.Meets.{meets}
use Rattle.patterns.specs.Judged.{order_by}
use Rattle.positions.specs.Summaries.{Right}
use Rattle.follow.specs.Meaning.{past_meaning}
use Rattle.follow.specs.Rules.{Tree, Keeps}
use Rattle.follow.specs.State.{rules_held, rule_at}
use Rattle.follow.specs.declared.state.State.{State}

-- all roles of all events are held
abbrev pub EventsHeld : ℕ → List (List ℕ) → Type 0
EventsHeld n l = All (λ e. All (λ i. i < n) e) l

-- rule i is that of the tree t, and l are the events committed since its declaration, oldest first
pub record FollowsPast (f : State) (i : ℕ) (t : Tree) (l : List (List ℕ)) : Type 0 where
  pub held : i < rules_held f.sheet
  pub keeps : Keeps (rule_at f.sheet i) t
  pub small : size_past t.past ≤ 63
  pub events : EventsHeld f.sheet.role_count l
  pub right : Right (meets (order_by f.sheet.above)) (past_meaning t.past) l (get_or f.positions i 0)
