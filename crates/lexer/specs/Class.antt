-- The class of a byte. Document 01, "A record".
-- Assumes nothing.
use Rattle.std.specs.Prelude.{◌≡◌, ℕ, Bool, true, false, not, cond, ◌&&◌, ◌||◌, List, [], ◌∷◌, leb, eqb}
use Rattle.common.specs.All.{All}

-- b is one of lo to hi
abbrev pub within : ℕ → ℕ → ℕ → Bool
within lo hi b = leb lo b && leb b hi

-- b is one of the list
abbrev pub among : ℕ → List ℕ → Bool
among b [] = false
among b (m ∷ ms) = eqb b m || among b ms

-- "`: ; ( ) [ ] < > + * #`"
abbrev pub marks : List ℕ
marks = 58 ∷ 59 ∷ 40 ∷ 41 ∷ 91 ∷ 93 ∷ 60 ∷ 62 ∷ 43 ∷ 42 ∷ 35 ∷ []

-- "1 for space; 2 for `a` to `z`; 3 for `0` to `9`; 4 for hyphen; 5 for `: ; ( ) [ ] < > + * #`; 6 for the other bytes from 33 to 126; 0 for the rest"
unfoldable pub class_of : ℕ → ℕ
class_of b =
    cond (eqb b 32) 1
    (cond (within 97 122 b) 2
    (cond (within 48 57 b) 3
    (cond (eqb b 45) 4
    (cond (among b marks) 5
    (cond (within 33 126 b) 6 0)))))

-- "classes 2, 3 and 4": the bytes of words
unfoldable pub wordy : ℕ → Bool
wordy b = within 2 4 (class_of b)

-- class 1
unfoldable pub spacey : ℕ → Bool
spacey b = eqb (class_of b) 1

-- class 5: "Each class 5 byte is a token of its own."
unfoldable pub marky : ℕ → Bool
marky b = eqb (class_of b) 5

-- no byte is of class 0: the opposite of "a text byte of class 0"
unfoldable pub all_classed : List ℕ → Bool
all_classed [] = true
all_classed (b ∷ s) = not (eqb (class_of b) 0) && all_classed s

-- a word has only bytes of words
abbrev pub Wordy : List ℕ → Type 0
Wordy w = All (λ b. wordy b ≡ true) w
