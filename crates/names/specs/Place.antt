-- The place of a packed name among those held.
-- Assumes nothing.
use Rattle.std.specs.Prelude.{Bool, not, cond, List, ℕ, Option, Some, None, eqb, ltb, length}
use Rattle.lexer.specs.Run.{run}
use Rattle.names.specs.Name.{packed}

-- n is another number than x
unfoldable pub differs : ℕ → ℕ → Bool
differs x n = not (eqb n x)

-- the place of a packed name in a list of packed names, or the list's length
unfoldable pub place : ℕ → List ℕ → ℕ
place x ns = length (run (differs x) ns)

-- that place, where a name stands there: none where the name is not held
abbrev pub found : ℕ → List ℕ → Option ℕ
found x ns = cond (ltb (place x ns) (length ns)) (Some (place x ns)) None

-- the name w is among those held
abbrev pub held : List ℕ → List ℕ → Bool
held ns w = ltb (place (packed w) ns) (length ns)
