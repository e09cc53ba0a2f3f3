-- An event with one role more.
-- Assumes nothing.
use Rattle.std.proofs.Common.{◌≡◌, [], ◌∷◌, ◌++◌, ℕ, ◌+◌, ◌<◌, add-one, arith, length, set, take-suc-set}
use Rattle.code.specs.Events.{event_of}
use Rattle.code.specs.declared.events.Event.{Event}
use Rattle.follow.proofs.CappedLaws.{capped_small}

-- one role more
abbrev pub with : Event → ℕ → Event
with e x = record { len = e.len + 1; roles = set e.roles e.len x }

pub more-roles : (e : Event) (x : ℕ) → length e.roles ≡ 4 → e.len < 4 → event_of (with e x) ≡ event_of e ++ (x ∷ [])
more-roles e x l h = rw (capped_small 4 (e.len + 1) (omega arith), capped_small 4 e.len (omega arith), add-one e.len) (take-suc-set e.roles e.len x (omega arith))
