-- Rule code: one byte for a token. A mark is its own byte, a keyword a letter, a digit itself, and a role name 128 and its id.
-- Assumes nothing.
use Rattle.std.specs.Prelude.{Bool, false, cond, ◌&&◌, ◌||◌, List, [], ◌∷◌, ℕ, ◌+◌, eqb, ltb, get_or}
use Rattle.lexer.specs.Words.{kind_of, name_k}
use Rattle.lexer.specs.Tokens.{Token, word, mark, other}
use Rattle.names.specs.Name.{packed}
use Rattle.names.specs.Place.{place, held}

-- the id that no role has: of a name that is not held, and of one held past the ids of seven bits
abbrev pub unheld_id : ℕ
unheld_id = 127

-- the id of a name: its place among those held, where that is an id of seven bits
unfoldable pub id_of : List ℕ → List ℕ → ℕ
id_of ns w = cond (held ns w && ltb (place (packed w) ns) unheld_id) (place (packed w) ns) unheld_id

-- the name has no id
abbrev pub no_id : List ℕ → List ℕ → Bool
no_id ns w = eqb (id_of ns w) unheld_id

-- by the kind of a word: any not or pass hold send anew are a n o p h s w, and a digit is itself; the words that stand in no rule's body are 0
abbrev pub letters : List ℕ
letters = 0 ∷ 0 ∷ 0 ∷ 0 ∷ 97 ∷ 110 ∷ 111 ∷ 112 ∷ 104 ∷ 115 ∷ 119 ∷ 0 ∷ 48 ∷ 49 ∷ 50 ∷ 51 ∷ 52 ∷ 53 ∷ 54 ∷ 55 ∷ 56 ∷ 57 ∷ []

-- the letter of a kind, 0 where it has none
unfoldable pub byte_of_kind : ℕ → ℕ
byte_of_kind k = get_or letters k 0

-- the byte of a token, by the names held
unfoldable pub code_of : List ℕ → Token → ℕ
code_of ns (word w) = cond (eqb (kind_of w) name_k) (128 + id_of ns w) (byte_of_kind (kind_of w))
code_of ns (mark b) = b
code_of ns (other b) = 0

-- the token is a name that has no id
unfoldable pub unheld : List ℕ → Token → Bool
unheld ns (word w) = eqb (kind_of w) name_k && no_id ns w
unheld ns (mark b) = false
unheld ns (other b) = false

-- one byte a token
unfoldable pub codes : List ℕ → List Token → List ℕ
codes ns [] = []
codes ns (t ∷ ts) = code_of ns t ∷ codes ns ts

-- refusal 6: a name among the tokens has no id
unfoldable pub any_unheld : List ℕ → List Token → Bool
any_unheld ns [] = false
any_unheld ns (t ∷ ts) = unheld ns t || any_unheld ns ts

-- refusal 6: one of some names has no id
unfoldable pub lacks : List ℕ → List (List ℕ) → Bool
lacks ns [] = false
lacks ns (w ∷ ws) = no_id ns w || lacks ns ws
