-- The judge's answer.
-- Assumes nothing.

-- yes or no, or why there is no answer: refusals 9, 10, 3, 4 and 6
pub data Verdict : Type 0 where
  Yes : Verdict
  No : Verdict
  NoRule : Verdict
  NotWhole : Verdict
  Malformed : Verdict
  NotInLanguage : Verdict
  Unknown : Verdict
