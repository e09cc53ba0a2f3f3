-- Reserved words, names and digits. Document 01, "A record".
-- Assumes nothing.
use Rattle.std.specs.Prelude.{ℕ, suc, ◌+◌, ◌-◌, Bool, true, false, cond, ◌&&◌, List, [], ◌∷◌, eqb, length, get_or}
use Rattle.common.specs.Limits.{name_size}
use Rattle.lexer.specs.Class.{class_of, within}
use Rattle.lexer.specs.declared.words.WordKind.{WordKind}
use Rattle.lexer.specs.declared.words.WordKind.TheVariants.{Name, Role, Under, Rule, Any, Not, Or, Pass, Hold, Send, Anew, Digit, Other}

-- whether two lists are the same
unfoldable pub same : List ℕ → List ℕ → Bool
same [] [] = true
same [] (k ∷ ks) = false
same (a ∷ w) [] = false
same (a ∷ w) (k ∷ ks) = eqb a k && same w ks

abbrev pub role_w : List ℕ
role_w = 114 ∷ 111 ∷ 108 ∷ 101 ∷ []

abbrev pub under_w : List ℕ
under_w = 117 ∷ 110 ∷ 100 ∷ 101 ∷ 114 ∷ []

abbrev pub rule_w : List ℕ
rule_w = 114 ∷ 117 ∷ 108 ∷ 101 ∷ []

abbrev pub any_w : List ℕ
any_w = 97 ∷ 110 ∷ 121 ∷ []

abbrev pub not_w : List ℕ
not_w = 110 ∷ 111 ∷ 116 ∷ []

abbrev pub or_w : List ℕ
or_w = 111 ∷ 114 ∷ []

abbrev pub pass_w : List ℕ
pass_w = 112 ∷ 97 ∷ 115 ∷ 115 ∷ []

abbrev pub hold_w : List ℕ
hold_w = 104 ∷ 111 ∷ 108 ∷ 100 ∷ []

abbrev pub send_w : List ℕ
send_w = 115 ∷ 101 ∷ 110 ∷ 100 ∷ []

abbrev pub anew_w : List ℕ
anew_w = 97 ∷ 110 ∷ 101 ∷ 119 ∷ []

-- "Reserved words, compared as fixed bytes: role, under, rule, any, not, or, pass, hold, send, anew."
abbrev pub reserved : List (List ℕ)
reserved = role_w ∷ under_w ∷ rule_w ∷ any_w ∷ not_w ∷ or_w ∷ pass_w ∷ hold_w ∷ send_w ∷ anew_w ∷ []

-- the place of w in a list of words, counted from i, or d where it is not there
abbrev pub place_from : ℕ → List (List ℕ) → List ℕ → ℕ → ℕ
place_from i [] w d = d
place_from i (k ∷ ks) w d = cond (same w k) i (place_from (suc i) ks w d)

-- KINDS OF WORDS: a number for each

-- a name
abbrev pub name_k : ℕ
name_k = 0

-- a reserved word: its place in the list, from 1
abbrev pub role_k : ℕ
role_k = 1

abbrev pub under_k : ℕ
under_k = 2

abbrev pub rule_k : ℕ
rule_k = 3

abbrev pub any_k : ℕ
any_k = 4

abbrev pub not_k : ℕ
not_k = 5

abbrev pub or_k : ℕ
or_k = 6

abbrev pub pass_k : ℕ
pass_k = 7

abbrev pub hold_k : ℕ
hold_k = 8

abbrev pub send_k : ℕ
send_k = 9

abbrev pub anew_k : ℕ
anew_k = 10

-- any other word
abbrev pub other_k : ℕ
other_k = 11

-- the word of the one digit d is of the kind zeroK + d
abbrev pub zero_k : ℕ
zero_k = 12

-- the number of a kind
unfoldable pub kind_number : WordKind → ℕ
kind_number Name = name_k
kind_number Role = role_k
kind_number Under = under_k
kind_number Rule = rule_k
kind_number Any = any_k
kind_number Not = not_k
kind_number Or = or_k
kind_number Pass = pass_k
kind_number Hold = hold_k
kind_number Send = send_k
kind_number Anew = anew_k
kind_number (Digit d) = zero_k + d
kind_number Other = other_k

-- "a word of 1 to 8 bytes that begins with a letter"
unfoldable pub name_like : List ℕ → Bool
name_like w = within 1 name_size (length w) && eqb (class_of (get_or w 0 0)) 2

-- a word of one digit: 48 is the digit 0
unfoldable pub digit_kind : List ℕ → ℕ
digit_kind w = cond (eqb (length w) 1) (cond (within 48 57 (get_or w 0 0)) (get_or w 0 0 - 36) other_k) other_k

-- "A name is a word of 1 to 8 bytes that begins with a letter and isn't reserved."
unfoldable pub kind_of : List ℕ → ℕ
kind_of w = place_from 1 reserved w (cond (name_like w) name_k (digit_kind w))
