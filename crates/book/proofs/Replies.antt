-- Every reply has 50 bytes: the buffer keeps its length.
-- Assumes nothing.
use Rattle.std.proofs.Common.{◌≡◌, Bool, true, false, cond, List, [], ℕ, eqb, length}
use Rattle.chain.specs.Work.{committed, held, unfit, too_long}
use Rattle.common.specs.Limits.{max_responses}
use Rattle.columns.specs.Kinds.{letter_of}
use Rattle.columns.specs.declared.kinds.ReplyKind.TheVariants.{Declared, Committed, Held, Unfit, TooLong, Refused}
use Rattle.reply.specs.Reply.{spaced, dash, reply_bytes}
use Rattle.reply.proofs.ReplyLaws.{reply-length}
use Rattle.book.specs.Names.{Outcome}
use Rattle.book.specs.Decide.{Decision, refused, new_role, new_rule, worked, outcome_reply, answer}

outcome_length : (o : Outcome) → length (outcome_reply o) ≡ 50
outcome_length (committed e n) = reply-length (letter_of Committed) n dash (spaced e)
outcome_length (held w n) = reply-length (letter_of Held) n w []
outcome_length (unfit w n) = reply-length (letter_of Unfit) n w []
outcome_length (too_long w) = reply-length (letter_of TooLong) max_responses w []

pub answer-length : (d : Decision) (b : List ℕ) → length b ≡ 50 → length (answer d b).buffer ≡ 50
unfolding answer
answer-length (refused n) b h = go (eqb n 1)
  where
    go : (q : Bool) → length (cond q b (reply_bytes (letter_of Refused) n dash [])) ≡ 50
    go true = h
    go false = reply-length (letter_of Refused) n dash []
answer-length (new_role n p) b h = reply-length (letter_of Declared) 0 n []
answer-length (new_rule r) b h = reply-length (letter_of Declared) 0 r.name []
answer-length (worked o) b h = outcome_length o
