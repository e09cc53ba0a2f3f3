-- What a round promises, whatever is lent.
-- Assumes nothing.
use Rattle.std.specs.Prelude.{◌≡◌, List, ℕ, Result, Ok, Err}
use Rattle.common.specs.Refusals.{refusal_number}
use Rattle.common.specs.declared.refusals.Refusal.{Refusal}
use Rattle.book.specs.Decide.{Answer}
use Rattle.book.specs.Rounds.{HostImage, round_step}

-- document 02's number: 0, or 13, 12 or 11; and how many records of the image buffer are the image now
pub record RoundEnd : Type 0 where
  pub number : ℕ
  pub used : ℕ

-- what a round hands back, of the used number passed: the new one, or a refusal and the old one
abbrev pub round_end : ℕ → Result ℕ Refusal → RoundEnd
round_end used (Ok n) = record { number = 0; used = n }
round_end used (Err e) = record { number = refusal_number e; used = used }

-- what is handed back, and the image and the reply buffer afterwards, are those of C-13's round; nothing else is looked at
pub record RoundRuns (image : List ℕ) (used : ℕ) (records replies imageAfter repliesAfter : List ℕ) (r : RoundEnd) : Type 0 where
  pub is :
      ◌≡◌ {A = HostImage × Answer} (record { buffer = imageAfter; used = r.used }, record { number = r.number; buffer = repliesAfter })
      (round_step (record { buffer = image; used = used }) (record { records = records; replies = replies }))
