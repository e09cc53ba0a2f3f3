-- Replies printed in document 01, "A session printed" and "Other runs", as bytes.
-- Assumes nothing.
use Rattle.std.specs.Prelude.{◌≡◌, refl, List, [], ◌∷◌, ℕ}
use Rattle.columns.specs.declared.kinds.ReplyKind.TheVariants.{Declared, Committed, Held, TooLong}
use Rattle.columns.specs.Kinds.{letter_of}
use Rattle.reply.specs.Reply.{padded, spaced, dash, reply_bytes}

-- the names lamp, uv, expose and a
abbrev lamp : List ℕ
lamp = 108 ∷ 97 ∷ 109 ∷ 112 ∷ []

abbrev uv : List ℕ
uv = 117 ∷ 118 ∷ []

abbrev expose : List ℕ
expose = 101 ∷ 120 ∷ 112 ∷ 111 ∷ 115 ∷ 101 ∷ []

abbrev a : List ℕ
a = 97 ∷ []

-- `D 00 lamp`
pub printed-lamp : reply_bytes (letter_of Declared) 0 lamp []
    ≡ 68 ∷ 32 ∷ 48 ∷ 48 ∷ 32 ∷ 108 ∷ 97 ∷ 109 ∷ 112 ∷ 32 ∷ 32 ∷ 32 ∷ 32 ∷ 32 ∷ 32 ∷ 32 ∷ 32 ∷ 32 ∷ 32 ∷ 32 ∷ 32 ∷ 32 ∷ 32 ∷ 32 ∷ 32 ∷ 32 ∷ 32 ∷ 32 ∷ 32 ∷ 32 ∷ 32 ∷ 32 ∷ 32 ∷ 32 ∷ 32 ∷ 32 ∷ 32 ∷ 32 ∷ 32 ∷ 32 ∷ 32 ∷ 32 ∷ 32 ∷ 32 ∷ 32 ∷ 32 ∷ 32 ∷ 32 ∷ 32 ∷ 10 ∷ []
unfolding reply_bytes padded
printed-lamp = refl

-- `H 01 a`
pub printed-held : reply_bytes (letter_of Held) 1 a []
    ≡ 72 ∷ 32 ∷ 48 ∷ 49 ∷ 32 ∷ 97 ∷ 32 ∷ 32 ∷ 32 ∷ 32 ∷ 32 ∷ 32 ∷ 32 ∷ 32 ∷ 32 ∷ 32 ∷ 32 ∷ 32 ∷ 32 ∷ 32 ∷ 32 ∷ 32 ∷ 32 ∷ 32 ∷ 32 ∷ 32 ∷ 32 ∷ 32 ∷ 32 ∷ 32 ∷ 32 ∷ 32 ∷ 32 ∷ 32 ∷ 32 ∷ 32 ∷ 32 ∷ 32 ∷ 32 ∷ 32 ∷ 32 ∷ 32 ∷ 32 ∷ 32 ∷ 32 ∷ 32 ∷ 32 ∷ 32 ∷ 32 ∷ 10 ∷ []
unfolding reply_bytes padded
printed-held = refl

-- "act expose gives C 02, expose uv": `C 02 -        expose uv`
pub printed_sent : reply_bytes (letter_of Committed) 2 dash (spaced (expose ∷ uv ∷ []))
    ≡ 67 ∷ 32 ∷ 48 ∷ 50 ∷ 32 ∷ 45 ∷ 32 ∷ 32 ∷ 32 ∷ 32 ∷ 32 ∷ 32 ∷ 32 ∷ 32 ∷ 101 ∷ 120 ∷ 112 ∷ 111 ∷ 115 ∷ 101 ∷ 32 ∷ 117 ∷ 118 ∷ 32 ∷ 32 ∷ 32 ∷ 32 ∷ 32 ∷ 32 ∷ 32 ∷ 32 ∷ 32 ∷ 32 ∷ 32 ∷ 32 ∷ 32 ∷ 32 ∷ 32 ∷ 32 ∷ 32 ∷ 32 ∷ 32 ∷ 32 ∷ 32 ∷ 32 ∷ 32 ∷ 32 ∷ 32 ∷ 32 ∷ 10 ∷ []
unfolding reply_bytes padded spaced
printed_sent = refl

-- "A lone anew of the same act: T 64": `T 64 a` for a rule a
pub printed-long : reply_bytes (letter_of TooLong) 64 a []
    ≡ 84 ∷ 32 ∷ 54 ∷ 52 ∷ 32 ∷ 97 ∷ 32 ∷ 32 ∷ 32 ∷ 32 ∷ 32 ∷ 32 ∷ 32 ∷ 32 ∷ 32 ∷ 32 ∷ 32 ∷ 32 ∷ 32 ∷ 32 ∷ 32 ∷ 32 ∷ 32 ∷ 32 ∷ 32 ∷ 32 ∷ 32 ∷ 32 ∷ 32 ∷ 32 ∷ 32 ∷ 32 ∷ 32 ∷ 32 ∷ 32 ∷ 32 ∷ 32 ∷ 32 ∷ 32 ∷ 32 ∷ 32 ∷ 32 ∷ 32 ∷ 32 ∷ 32 ∷ 32 ∷ 32 ∷ 32 ∷ 32 ∷ 10 ∷ []
unfolding reply_bytes padded
printed-long = refl
