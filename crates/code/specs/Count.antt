-- How many patterns a past has, told from its code. Document 01: "A rule line has at most 31 patterns in its past; a bracketed condition counts as one." (C-15: 63)
-- Assumes nothing.
use Rattle.std.specs.Prelude.{Bool, true, false, cond, not, List, [], ◌∷◌, ℕ, suc, eqb}
use Rattle.lexer.specs.Class.{among}

-- whether a byte of code begins a pattern, inside square brackets or not: any, < or [
abbrev pub begins : Bool → ℕ → Bool
begins true b = false
begins false b = among b (97 ∷ 60 ∷ 91 ∷ [])

-- one more, or not
abbrev pub more : Bool → ℕ → ℕ
more true n = suc n
more false n = n

-- whether the next byte stands inside square brackets
abbrev pub goes_inside : Bool → ℕ → Bool
goes_inside true b = not (eqb b 93)
goes_inside false b = eqb b 91

-- the patterns that begin before the first `;`
unfoldable pub patterns_from : Bool → List ℕ → ℕ
patterns_from inside [] = 0
patterns_from inside (b ∷ c) = cond (eqb b 59) 0 (more (begins inside b) (patterns_from (goes_inside inside b) c))
