-- What a record asks, told by its kind.
-- Assumes nothing.
use Rattle.std.specs.Prelude.{ℕ}
use Rattle.code.specs.declared.events.Event as kept

-- a record is refused; or it is a line, to be declared; or an event, to be worked
pub data Kind : Type 0 where
  Refusal : Kind
  Line : Kind
  Event : Kind

-- document 01's number, 0 when the record is not refused, and the event with ids for names, where it is one
pub record Request : Type 0 where
  pub kind : Kind
  pub number : ℕ
  pub event : kept.Event
