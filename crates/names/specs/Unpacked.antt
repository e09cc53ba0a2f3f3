-- The bytes of a packed name.
-- Assumes nothing.
use Rattle.std.specs.Prelude.{Bool, not, List, [], ◌∷◌, ℕ, eqb}
use Rattle.lexer.specs.Run.{run}
use Rattle.names.specs.Name.{column_at}

-- no space
unfoldable pub not_space : ℕ → Bool
not_space b = not (eqb b 32)

-- the eight columns of a packed name
abbrev pub columns_of : ℕ → List ℕ
columns_of n = column_at n 0 ∷ column_at n 1 ∷ column_at n 2 ∷ column_at n 3 ∷ column_at n 4 ∷ column_at n 5 ∷ column_at n 6 ∷ column_at n 7 ∷ []

-- a packed name without the spaces after it
unfoldable pub unpacked : ℕ → List ℕ
unpacked n = run not_space (columns_of n)
