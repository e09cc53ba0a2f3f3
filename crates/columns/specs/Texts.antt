-- Texts in columns. Document 01, "Reply, 50 bytes".
-- Assumes nothing.
use Rattle.std.specs.Prelude.{List, [], ◌∷◌, ◌++◌, ℕ, ◌+◌, ◌/◌, ◌%◌, take, replicate}
use Rattle.common.specs.Limits.{name_size}

-- the name where there is none: "else `-`"
abbrev pub dash : List ℕ
dash = 45 ∷ []

-- k spaces
abbrev pub spaces : ℕ → List ℕ
spaces k = replicate k 32

-- "padded with spaces" to k columns
unfoldable pub padded : ℕ → List ℕ → List ℕ
padded k w = take k (w ++ spaces k)

-- "the committed role names with one space between"
unfoldable pub spaced : List (List ℕ) → List ℕ
spaced [] = []
spaced (n ∷ []) = n
spaced (n ∷ (m ∷ e)) = n ++ (32 ∷ spaced (m ∷ e))

-- a space before each
unfoldable pub before : List (List ℕ) → List ℕ
before [] = []
before (n ∷ e) = 32 ∷ (n ++ before e)

-- columns 0 to 4: a letter; columns 2 and 3, "two digits"; spaces after each
abbrev pub opening_of : ℕ → ℕ → List ℕ
opening_of letter n = letter ∷ 32 ∷ (n / 10 + 48) ∷ (n % 10 + 48) ∷ 32 ∷ []

-- columns 0 to 13: these, the name in columns 5 to 12, and a space
abbrev pub front_of : ℕ → ℕ → List ℕ → List ℕ
front_of letter n name = opening_of letter n ++ (padded name_size name ++ (32 ∷ []))
