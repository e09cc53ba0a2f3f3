-- Records as lists of bytes: one made from its text, and those of a buffer.
-- Assumes nothing.
use Rattle.std.specs.Prelude.{List, [], ◌∷◌, ◌++◌, ℕ, zero, suc, take, drop, replicate}
use Rattle.common.specs.Limits.{record_size}
use Rattle.frame.specs.Record.{newline}

-- a record: byte 0 and the text, spaces, the newline
abbrev pub record_of : List ℕ → List ℕ
record_of s = take 127 (s ++ replicate 127 32) ++ (newline ∷ [])

-- the first n records of a buffer; the last may be short
abbrev pub records_of : ℕ → List ℕ → List (List ℕ)
records_of zero s = []
records_of (suc n) s = take record_size s ∷ records_of n (drop record_size s)
