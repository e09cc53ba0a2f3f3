-- Calls and answers written as text, for examples.
-- Assumes nothing.
use Rattle.std.specs.Prelude.{List, [], ◌∷◌, ◌++◌, ℕ, replicate}
use Rattle.common.specs.Limits.{reply_size}
use Rattle.frame.specs.Records.{record_of}
use Rattle.reply.specs.Reply.{padded}
use Rattle.book.specs.Decide.{Call, Answer}

-- a call with the record of that text, and a buffer of 50 bytes
abbrev pub call_of : List ℕ → Call
call_of s = record { bytes = record_of s; buffer = replicate reply_size 0 }

-- an answer: the number, and the reply with its trailing spaces not shown
abbrev pub answer_of : ℕ → List ℕ → Answer
answer_of n s = record { number = n; buffer = padded 49 s ++ (10 ∷ []) }
