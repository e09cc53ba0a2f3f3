-- Refusals and answers as one number.
-- Assumes nothing.
use Rattle.std.specs.Prelude.{Bool, true, false, ℕ, ◌*◌, Result, Ok, Err}
use Rattle.common.specs.Refusals.{refusal_number}
use Rattle.common.specs.declared.refusals.Refusal.{Refusal}
use Rattle.stand.specs.Rounds.{shift}

-- the refusal's number in the upper half
abbrev pub refused : Refusal → ℕ
refused r = refusal_number r * shift

-- 1 for yes
abbrev pub answered : Result Bool Refusal → ℕ
answered (Ok true) = 1
answered (Ok false) = 0
answered (Err r) = refused r
