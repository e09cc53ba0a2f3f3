-- Texts written as strings, for examples.
-- Assumes nothing.
use Rattle.std.specs.Prelude.{List, [], ◌∷◌, ℕ}
use Prim.Native.Char.{code}
use Prim.Native.String.{String, [] as none, ◌∷◌ as ◌then◌}

-- the bytes of a text in ASCII
abbrev pub bytes_of : String → List ℕ
bytes_of none = []
bytes_of (◌then◌ c s) = code c ∷ bytes_of s
