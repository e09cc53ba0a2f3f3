-- A text whose tokens spell a valid role line, rule line or event is read as just that.
-- Assumes nothing.
use Rattle.std.proofs.Common.{◌≡◌, refl, ap, sym, ◌∙◌, false, List, [], ◌∷◌, ◌++◌, append_assoc, append-nil, ℕ, zero, suc, ◌+◌, ◌*◌, ◌<◌, ◌≤◌, arith, length, length-append}
use mathlib.Core.List.{map as map_list}
use Rattle.lexer.specs.Tokens.{Token, word, mark, tokens}
use Rattle.lexer.proofs.TokenLaws.{tokens-length}
use Rattle.grammar.specs.Parsed.{some, mark_is, word_is}
use Rattle.grammar.specs.AsRead.{Pattern, Past, Response, role, rule, event}
use Rattle.grammar.specs.Spell.{spell_pattern, spell_past, spell_response, spell_line, spell_tail}
use Rattle.grammar.specs.Valid.{ValidPattern, ValidResponse, ValidNames, ValidLine}
use Rattle.grammar.specs.Parser.{begins, role_of, head_of, tail_of, rule_of, names_of, event_of, depth}
use Rattle.grammar.proofs.CompleteLeaves.{NoMark, kind-reserved}
use Rattle.grammar.proofs.CompletePatterns.{pattern_complete}
use Rattle.grammar.proofs.CompletePasts.{past_complete}
use Rattle.grammar.proofs.CompleteResponses.{response_complete}

role_complete : (w p : List ℕ) (rest : List Token) → ValidLine (role w p) → role_of (spell_line (role w p) ++ rest) ≡ some (role w p) rest
unfolding ValidLine role_of spell_line word_is
role_complete w p rest g = rw (kind-reserved 0 (omega arith), g.0, kind-reserved 1 (omega arith), g.1) refl

tail_complete : (p : Pattern) (x : Response) (rest : List Token) (f : ℕ) → ValidPattern p → ValidResponse x → length (spell_tail p x) * 8 + 2 < f
    → tail_of f (spell_tail p x ++ rest) ≡ some (p, x) rest
unfolding tail_of spell_tail mark_is
tail_complete p x rest f g h l =
    let n : length (spell_pattern p ++ (mark 59 ∷ spell_response x)) ≡ length (spell_pattern p) + suc (length (spell_response x)) = length-append (spell_pattern p) (mark 59 ∷ spell_response x) in
    rw (append_assoc (spell_pattern p) (mark 59 ∷ spell_response x) rest, pattern_complete p (mark 59 ∷ (spell_response x ++ rest)) f g (omega arith), response_complete x rest h) refl

tail_ends_past : (p : Pattern) (x : Response) (rest : List Token) → (NoMark 43 (spell_tail p x ++ rest) × NoMark 42 (spell_tail p x ++ rest)) × (begins (spell_tail p x ++ rest) ≡ false)
unfolding spell_tail mark_is begins
tail_ends_past p x rest = ((refl, refl), refl)

rule_complete : (w : List ℕ) (p : Past) (t : Pattern) (x : Response) (rest : List Token) (f : ℕ) → ValidLine (rule w p t x) → length (spell_line (rule w p t x)) * 8 + 6 < f
    → rule_of f (spell_line (rule w p t x) ++ rest) ≡ some (rule w p t x) rest
unfolding ValidLine rule_of head_of spell_line mark_is word_is
rule_complete w p t x rest f g l =
    let n : length (spell_past p ++ spell_tail t x) ≡ length (spell_past p) + length (spell_tail t x) = length-append (spell_past p) (spell_tail t x) in
    let e = tail_ends_past t x rest in
    rw (
      kind-reserved 2 (omega arith),
      g.0,
      append_assoc (spell_past p) (spell_tail t x) rest,
      past_complete p (spell_tail t x ++ rest) f g.1.0 e.0.0 e.0.1 e.1 (omega arith),
      tail_complete t x rest f g.1.1.0 g.1.1.1 (omega arith),
    ) refl

names_complete : (k : ℕ) (ws : List (List ℕ)) → ValidNames k ws → names_of k (map_list word ws) ≡ some ws []
unfolding names_of word_is ValidNames
names_complete zero [] g = refl
names_complete zero (w ∷ ws) g = absurd g
names_complete (suc k) [] g = refl
names_complete (suc k) (w ∷ ws) g = rw (g.0, names_complete k ws g.1) refl

-- a text whose tokens spell a valid line is read as that line, at the depth that its length gives

pub rule_read : (w : List ℕ) (p : Past) (t : Pattern) (x : Response) (s : List ℕ) → ValidLine (rule w p t x) → tokens s ≡ spell_line (rule w p t x)
    → rule_of (depth (length s)) (tokens s) ≡ some (rule w p t x) []
rule_read w p t x s g e =
    let l = rule w p t x in
    let n : length (tokens s) ≤ length s = tokens-length false s in
    let m : length (tokens s) ≡ length (spell_line l) = ap length e in
    let q : tokens s ≡ spell_line l ++ [] = e ∙ sym (append-nil (spell_line l)) in
    rw q (rule_complete w p t x [] (depth (length s)) g (omega arith))

pub role_read : (w p : List ℕ) (ts : List Token) → ValidLine (role w p) → ts ≡ spell_line (role w p) → role_of ts ≡ some (role w p) []
role_read w p ts g e = rw (e ∙ sym (append-nil (spell_line (role w p)))) (role_complete w p [] g)

pub event_read : (ws : List (List ℕ)) (ts : List Token) → ValidLine (event ws) → ts ≡ spell_line (event ws) → event_of ts ≡ some (event ws) []
unfolding ValidLine spell_line event_of
event_read ws ts g e = rw (e, names_complete 4 ws g) refl
