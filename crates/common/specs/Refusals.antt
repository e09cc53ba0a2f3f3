-- The numbers of refusals. Document 01, "Refusals, in the order checked"; document 02, C-11 to C-13.
-- Assumes nothing.
use Rattle.std.specs.Prelude.{ℕ, Result, Ok, Err}
use Rattle.common.specs.declared.refusals.Refusal.{Refusal}
use Rattle.common.specs.declared.refusals.Refusal.TheVariants.{ReplyLength, RecordLength, Malformed, NotInLanguage, NameTaken, NotDeclared, TooManyPatterns, Full, NoRule, ListLength, BatchLength, ImageTurnedAway, ImageLength}

-- the first column of document 01's table, and document 02's 11 "if the record and reply buffers don't fit", 12 of an image and 13 of an image buffer
abbrev pub refusal_number : Refusal → ℕ
refusal_number ReplyLength = 1
refusal_number RecordLength = 2
refusal_number Malformed = 3
refusal_number NotInLanguage = 4
refusal_number NameTaken = 5
refusal_number NotDeclared = 6
refusal_number TooManyPatterns = 7
refusal_number Full = 8
refusal_number NoRule = 9
refusal_number ListLength = 10
refusal_number BatchLength = 11
refusal_number ImageTurnedAway = 12
refusal_number ImageLength = 13

-- "Each call also returns a number, 0 when taken."
abbrev pub answer_number : {A : Type 0} → Result A Refusal → ℕ
answer_number (Ok a) = 0
answer_number (Err r) = refusal_number r
