-- What the writer of a reply promises: the reply of a kind, and the lent buffer afterwards.
-- Assumes nothing.
use Rattle.std.specs.Prelude.{◌≡◌, Bool, cond, List, map, ℕ, eqb, length}
use Rattle.common.specs.Limits.{reply_size}
use Rattle.names.specs.Unpacked.{unpacked}
use Rattle.columns.specs.declared.kinds.ReplyKind.{ReplyKind}
use Rattle.columns.specs.Kinds.{letter_of}
use Rattle.reply.specs.Reply.{spaced, reply_bytes}

-- the reply of a kind, with a packed name and packed role names
abbrev pub reply_of : ReplyKind → ℕ → ℕ → List ℕ → List ℕ
reply_of kind number name roles = reply_bytes (letter_of kind) number (unpacked name) (spaced (map unpacked roles))

-- a buffer as lent, the reply, the buffer afterwards, and whether it was written; row 1: "reply buffer not 50 bytes; it is untouched"
pub record Written (lent w left : List ℕ) (r : Bool) : Type 0 where
  pub told : r ≡ eqb (length lent) reply_size
  pub buffer : left ≡ cond (eqb (length lent) reply_size) w lent
