-- Texts of document 01 read by the definitions, computed: what each says, and texts that say nothing.
-- Assumes nothing.
use Rattle.std.proofs.Common.{◌≡◌, refl, List, [], ◌∷◌, ℕ}
use Rattle.std.proofs.Math.Option.{Option, none, some}
use Prim.Native.String.{String}
use Rattle.lexer.specs.Class.{class_of, wordy, spacey, marky}
use Rattle.lexer.specs.Run.{run}
use Rattle.lexer.specs.Words.{kind_of, same, name_like, digit_kind}
use Rattle.lexer.specs.Tokens.{tokens_from}
use Rattle.grammar.specs.AsRead.{Line, exact, below, close, star_close, item, any_event, items, term, or, negate, simple, inside, plain, bracketed, only, either, single, beside, starred, pattern, nothing, group, named, place, hold, send, anew, role, rule, event}
use Rattle.grammar.specs.Parsed.{mark_is, word_is, place_is, wholly}
use Rattle.grammar.specs.Parser.{item_of, open_of, items_of, simple_of, condition_with, term_with, condition_of, pattern_of, stars_of, after_stars, begins, past_with, sequence_with, factor_with, base_with, past_of, slot_of, slots_of, template_of, response_of, role_of, head_of, tail_of, rule_of, names_of, event_of}
use Rattle.grammar.specs.Lines.{read_line, read_event}
use Rattle.grammar.specs.Text.{bytes_of}

-- a text, and what it says
pub record LineRow : Type 0 where
  pub text : String
  pub says : Option Line

abbrev row : String → Option Line → LineRow
row t l = record { text = t; says = l }

abbrev all : (List ℕ → Option Line) → List LineRow → List (Option Line)
all f [] = []
all f (r ∷ rs) = f (bytes_of r.text) ∷ all f rs

abbrev expected : List LineRow → List (Option Line)
expected [] = []
expected (r ∷ rs) = r.says ∷ expected rs

abbrev lines : List LineRow
lines =
    row "role lamp under top" (some (role (bytes_of "lamp") (bytes_of "top")))
    ∷ row "rule a: any*<uv>; <expose>; hold"
    (some (rule (bytes_of "a")
    (only (beside (starred (pattern (plain any_event)) 1) (single (starred (pattern (plain (items (item (exact (bytes_of "uv")) close)))) 0))))
    (plain (items (item (exact (bytes_of "expose")) close))) hold))
    ∷ row "rule b: [not <uv> or (any)]* + (()+<+lamp *>)* ; any ; send <expose #2>"
    (some (rule (bytes_of "b")
    (either
    (single (starred (pattern (bracketed (or (negate (simple (items (item (exact (bytes_of "uv")) close)))) (term (inside (term (simple any_event))))))) 1))
    (only (single (starred (group (either (single (starred nothing 0)) (only (single (starred (pattern (plain (items (item (below (bytes_of "lamp")) star_close)))) 0))))) 1))))
    (plain any_event) (send (named (bytes_of "expose") ∷ place 2 ∷ []))))
    ∷ row "rule c:any;any;anew<>" (some (rule (bytes_of "c") (only (single (starred (pattern (plain any_event)) 0))) (plain any_event) (anew [])))
    ∷ row "role any under top" none
    ∷ row "role lamp under top top" none
    ∷ row "role longername under top" none
    ∷ row "rule c:*any;any;hold" none
    ∷ row "rule c:any+;any;hold" none
    ∷ row "rule c:any;any;send<#5>" none
    ∷ row "rule c:any;any;send<#12>" none
    ∷ row "rule c:<uv uv uv uv uv>;any;hold" none
    ∷ row "rule c:any;any;hold;" none
    ∷ []

pub lines_read : all read_line lines ≡ expected lines
unfolding class_of wordy spacey marky run kind_of same name_like digit_kind tokens_from mark_is word_is place_is wholly item_of open_of items_of simple_of condition_with term_with condition_of pattern_of stars_of after_stars begins past_with sequence_with factor_with base_with past_of slot_of slots_of template_of response_of role_of head_of tail_of rule_of read_line
lines_read = refl

abbrev events : List LineRow
events =
    row "" (some (event []))
    ∷ row " expose  uv " (some (event (bytes_of "expose" ∷ bytes_of "uv" ∷ [])))
    ∷ row "a b c d" (some (event (bytes_of "a" ∷ bytes_of "b" ∷ bytes_of "c" ∷ bytes_of "d" ∷ [])))
    ∷ row "a b c d e" none
    ∷ row " uv;" none
    ∷ row "any" none
    ∷ row "1uv" none
    ∷ []

pub events_read : all read_event events ≡ expected events
unfolding class_of wordy spacey marky run kind_of same name_like digit_kind tokens_from word_is wholly names_of event_of read_event
events_read = refl
