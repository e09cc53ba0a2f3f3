-- Kinds of words by their numbers.
-- Assumes nothing.
use Rattle.std.proofs.Common.{◌≡◌, ℕ, ◌+◌, ◌-◌, List, [], ◌∷◌, get_or, refl, ap, sym, ◌∙◌, arith}
use Rattle.std.proofs.lemmas.List.{get_or_past}
use Rattle.lexer.specs.Words.{kind_number}
use Rattle.lexer.specs.declared.words.WordKind.{WordKind}
use Rattle.lexer.specs.declared.words.WordKind.TheVariants.{Name, Role, Under, Rule, Any, Not, Or, Pass, Hold, Send, Anew, Digit, Other}

-- the kinds in the order of their numbers, without the digits
abbrev kinds : List WordKind
kinds = Name ∷ Role ∷ Under ∷ Rule ∷ Any ∷ Not ∷ Or ∷ Pass ∷ Hold ∷ Send ∷ Anew ∷ Other ∷ []

-- the kind of a number; one above those is a digit's
abbrev numbered : ℕ → WordKind
numbered n = get_or kinds n (Digit (n - 12))

-- a kind is that of its number
numbered_back : (k : WordKind) → numbered (kind_number k) ≡ k
unfolding kind_number
numbered_back Name = refl
numbered_back Role = refl
numbered_back Under = refl
numbered_back Rule = refl
numbered_back Any = refl
numbered_back Not = refl
numbered_back Or = refl
numbered_back Pass = refl
numbered_back Hold = refl
numbered_back Send = refl
numbered_back Anew = refl
numbered_back (Digit d) = get_or_past kinds (12 + d) (Digit (12 + d - 12)) (omega arith) ∙ ap Digit (omega arith)
numbered_back Other = refl

-- So two kinds of one number are one kind.
pub kind_number_same : (a b : WordKind) → kind_number a ≡ kind_number b → a ≡ b
kind_number_same a b e = sym (numbered_back a) ∙ ap numbered e ∙ numbered_back b
