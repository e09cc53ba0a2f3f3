-- The most patterns that a past can have in a line of 126 bytes. Document 02, C-15: "A line of 126 bytes can't hold 64 patterns, so refusal 7 can no longer be met,
-- and the team shows this." `past_room` of proofs/LongestPast.antt says that no line has more, `longest_there_is` that one has as many.
-- Assumes nothing.
use Rattle.std.specs.Prelude.{ℕ}

-- in `rule a:`, so many times `<>`, `;<>;hold`
abbrev pub longest_past : ℕ
longest_past = 55
