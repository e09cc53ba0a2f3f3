-- The letter of each kind of reply. Document 01, "Reply, 50 bytes".
-- Assumes nothing.
use Rattle.std.specs.Prelude.{ℕ}
use Rattle.columns.specs.declared.kinds.ReplyKind.{ReplyKind}
use Rattle.columns.specs.declared.kinds.ReplyKind.TheVariants.{Declared, Committed, Held, Unfit, TooLong, Refused}

-- "Column 0: `D` declared, `C` committed, `H` held, `U` unfit, `T` too long, `R` refused."
abbrev pub letter_of : ReplyKind → ℕ
letter_of Declared = 68
letter_of Committed = 67
letter_of Held = 72
letter_of Unfit = 85
letter_of TooLong = 84
letter_of Refused = 82
