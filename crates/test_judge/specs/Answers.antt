-- The judge's answers as this program prints and stores them, in four bytes.
-- Assumes nothing.
use Rattle.std.specs.Prelude.{ℕ, ◌+◌, ◌/◌, ◌%◌, Bool, true, false, List, [], ◌∷◌, Result, Ok, Err}
use Rattle.common.specs.Refusals.{refusal_number}
use Rattle.common.specs.declared.refusals.Refusal.{Refusal}

-- `R`, a space and two digits, as in columns 0 to 3 of document 01's reply
abbrev pub refusal_shown : ℕ → List ℕ
refusal_shown n = 82 ∷ 32 ∷ (48 + n / 10) ∷ (48 + n % 10) ∷ []

-- document 01: "It otherwise says yes or no"; a refusal by its number
abbrev pub shown_as : Result Bool Refusal → List ℕ
shown_as (Ok true) = 121 ∷ 101 ∷ 115 ∷ 32 ∷ []
shown_as (Ok false) = 110 ∷ 111 ∷ 32 ∷ 32 ∷ []
shown_as (Err r) = refusal_shown (refusal_number r)
