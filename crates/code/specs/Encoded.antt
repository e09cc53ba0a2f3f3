-- The code of a text: one byte a token, as many as a text of a record can have.
-- Assumes nothing.
use Rattle.std.specs.Prelude.{◌≡◌, Bool, List, [], ◌∷◌, ◌++◌, ℕ, ◌-◌, ◌<◌, ◌≤◌, Option, Some, None, length, take, replicate}
use Rattle.std.specs.Borrow.{Bor}
use Rattle.lexer.specs.Tokens.{Token, tokens, last}
use Rattle.code.specs.Code.{code_of, unheld, codes, any_unheld}
use Rattle.code.specs.declared.encode.Encoded.{Encoded}

-- "Bytes 1 to 126 are the text", which has no more tokens than bytes
abbrev pub code_size : ℕ
code_size = 126

-- what a text begins with: no token; or its code, whether it is a name that has no id, and what is left after it, which is the text's end
unfoldable pub Front : List ℕ → List ℕ → Option (ℕ × Bool × Bor (List ℕ)) → Type 0
Front ns s None = tokens s ≡ []
Front ns s (Some (c, u, left)) = (length left.now < length s) × ((t : Token) × (tokens s ≡ t ∷ tokens left.now) × (code_of ns t ≡ c) × (unheld ns t ≡ u) × (left.now ≡ last (length left.now) s))

-- the bytes that count are lent; none where the length is more than a code has
abbrev pub LendsCounted : Encoded → Option (Bor (List ℕ)) → Type 0
LendsCounted b None = code_size < b.len
LendsCounted b (Some bytes) = (b.len ≤ code_size) × (bytes.now ≡ take b.len b.code)

-- the bytes of some tokens with 0 after them, how many they are, and whether a name among them has no id
unfoldable pub filled : List ℕ → List Token → Encoded
filled ns ts = record { code = codes ns ts ++ replicate (code_size - length ts) 0; len = length ts; unknown = any_unheld ns ts }

-- the code of tokens: of the first 126, where they are more
unfoldable pub encoded_of : List ℕ → List Token → Encoded
encoded_of ns ts = filled ns (take code_size ts)
