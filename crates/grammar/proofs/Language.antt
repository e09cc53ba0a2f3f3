-- Which texts are in the rule language, and that each has one reading.
-- Assumes nothing.
use Rattle.std.proofs.Common.{◌≡◌, refl, ap, sym, ◌∙◌, true, List, [], ◌∷◌, append-nil, ◌↔◌, ℕ, arith, length}
use Rattle.std.proofs.Math.Option.{Option, none, some}
use Rattle.lexer.specs.Class.{class_of}
use Rattle.lexer.specs.Words.{kind_of, same, name_like, digit_kind}
use Rattle.lexer.specs.Tokens.{Token, tokens}
use Rattle.grammar.specs.AsRead.{Line, role, rule, event}
use Rattle.grammar.specs.Spell.{spell_line}
use Rattle.grammar.specs.Valid.{ValidLine, ValidNames}
use Rattle.grammar.specs.Parsed.{Parsed, none as failed, some as parsed, word_is, wholly}
use Rattle.grammar.specs.Parser.{role_of, head_of, rule_of, event_of, depth}
use Rattle.grammar.specs.Lines.{Says, declares, happens, or_else, read_line, read_event}
use Rattle.std.specs.Prelude.{Some, None}
use Rattle.grammar.specs.declared.lines.LineKind.TheVariants.{Role, Rule}
use Rattle.grammar.proofs.Spells.{Spells}
use Rattle.grammar.proofs.SoundLines.{rule_sound, role_sound, event_sound}
use Rattle.grammar.proofs.CompleteLines.{rule_read, role_read, event_read}
use Rattle.grammar.proofs.Shapes.{Kind, Shaped, kind_of as kindOfTree, rule_shaped, role_shaped, event_shaped}

kind-declares : (l : Line) (k : Kind) → kindOfTree l ≡ k → (k ≡ None → ⊥) → declares l ≡ true
kind-declares (role w p) k e f = refl
kind-declares (rule w p t x) k e f = refl
kind-declares (event ws) k e f = absurd (f (sym e))

kind-happens : (l : Line) → kindOfTree l ≡ None → happens l ≡ true
kind-happens (role w p) e = let z : ◌≡◌ {A = ℕ} 0 1 = cc in absurd (omega arith)
kind-happens (rule w p t x) e = let z : ◌≡◌ {A = ℕ} 0 1 = cc in absurd (omega arith)
kind-happens (event ws) e = refl

-- what was read to the end is what the text says
read_says : (s : List ℕ) (k : Kind) (p : Parsed Line) (l : Line) → Spells ValidLine spell_line (tokens s) p → Shaped kindOfTree k p → wholly p ≡ some l → Says s l × (kindOfTree l ≡ k)
unfolding wholly
read_says s k failed l g h e = let z : ◌≡◌ {A = ℕ} 0 1 = cc in absurd (omega arith)
read_says s k (parsed a []) l g h e =
    let q : a ≡ l = cc in
    rw (← q) (record { valid = g.it.0; spelled = g.it.1 ∙ append-nil (spell_line a) }, h.it)
read_says s k (parsed a (t ∷ ts)) l g h e = let z : ◌≡◌ {A = ℕ} 0 1 = cc in absurd (omega arith)

or_read : {A : Type 0} {X : Type 0} (a b : Option A) (l : A) → (a ≡ some l → X) → (b ≡ some l → X) → or_else a b ≡ some l → X
or_read none b l f g e = g e
or_read (some c) b l f g e = f e

line-says : (s : List ℕ) (l : Line) → read_line s ≡ some l → Says s l × (declares l ≡ true)
unfolding read_line
line-says s l e =
    or_read (wholly (rule_of (depth (length s)) (tokens s))) (wholly (role_of (tokens s))) l
    (λ h. let g = read_says s (Some Rule) (rule_of (depth (length s)) (tokens s)) l (rule_sound (depth (length s)) (tokens s)) (rule_shaped (depth (length s)) (tokens s)) h in
    (g.0, kind-declares l (Some Rule) g.1 (λ q. let z : ◌≡◌ {A = ℕ} 0 1 = cc in omega arith)))
    (λ h. let g = read_says s (Some Role) (role_of (tokens s)) l (role_sound (tokens s)) (role_shaped (tokens s)) h in
    (g.0, kind-declares l (Some Role) g.1 (λ q. let z : ◌≡◌ {A = ℕ} 0 1 = cc in omega arith)))
    e

-- a role line is no rule line
role_no_rule : (f : ℕ) (n p : List ℕ) → rule_of f (spell_line (role n p)) ≡ failed
unfolding rule_of head_of word_is spell_line kind_of same name_like digit_kind class_of
role_no_rule f n p = refl

says-line : (s : List ℕ) (l : Line) → Says s l → declares l ≡ true → read_line s ≡ some l
unfolding read_line wholly
says-line s (rule w p t x) h d = rw (rule_read w p t x s h.valid h.spelled) refl
says-line s (role w p) h d =
    let a : rule_of (depth (length s)) (tokens s) ≡ failed = ap (λ (ts : List Token). rule_of (depth (length s)) ts) h.spelled ∙ role_no_rule (depth (length s)) w p in
    rw (a, role_read w p (tokens s) h.valid h.spelled) refl
says-line s (event ws) h d = let z : ◌≡◌ {A = ℕ} 0 1 = cc in absurd (omega arith)

-- A line's text is read as l exactly when it says l: its tokens spell l, a role line or a rule line.
pub line_taken : (s : List ℕ) (l : Line) → (read_line s ≡ some l) ↔ (Says s l × (declares l ≡ true))
line_taken s l = (line-says s l, λ h. says-line s l h.0 h.1)

event-says : (s : List ℕ) (l : Line) → read_event s ≡ some l → Says s l × (happens l ≡ true)
unfolding read_event
event-says s l e =
    let g = read_says s None (event_of (tokens s)) l (event_sound (tokens s)) (event_shaped (tokens s)) e in
    (g.0, kind-happens l g.1)

says-event : (s : List ℕ) (l : Line) → Says s l → happens l ≡ true → read_event s ≡ some l
unfolding read_event wholly
says-event s (role w p) h d = let z : ◌≡◌ {A = ℕ} 0 1 = cc in absurd (omega arith)
says-event s (rule w p t x) h d = let z : ◌≡◌ {A = ℕ} 0 1 = cc in absurd (omega arith)
says-event s (event ws) h d = rw (event_read ws (tokens s) h.valid h.spelled) refl

-- An event's text is read as l exactly when it says l: its tokens spell l, an event.
pub event-taken : (s : List ℕ) (l : Line) → (read_event s ≡ some l) ↔ (Says s l × (happens l ≡ true))
event-taken s l = (event-says s l, λ h. says-event s l h.0 h.1)

not_none : {A : Type 0} (o : Option A) (a : A) → o ≡ none → o ≡ some a → ⊥
not_none o a e h = let z : ◌≡◌ {A = ℕ} 0 1 = cc in omega arith

some_is : {A : Type 0} (o : Option A) → ((a : A) → o ≡ some a → ⊥) → o ≡ none
some_is none f = refl
some_is (some a) f = absurd (f a refl)

-- Row 4, "text not in the language": no reading exactly when the text says no line.
pub line_refused : (s : List ℕ) → (read_line s ≡ none) ↔ ((l : Line) → declares l ≡ true → Says s l → ⊥)
line_refused s = (
  λ e l d h. not_none (read_line s) l e (says-line s l h d),
  λ f. some_is (read_line s) (λ l e. let h = line-says s l e in f l h.1 h.0),
)

pub event-refused : (s : List ℕ) → (read_event s ≡ none) ↔ ((l : Line) → happens l ≡ true → Says s l → ⊥)
event-refused s = (
  λ e l d h. not_none (read_event s) l e (says-event s l h d),
  λ f. some_is (read_event s) (λ l e. let h = event-says s l e in f l h.1 h.0),
)

-- no event is spelled as a line is: it begins with a name, and role and rule are none
event_no_line : (l : Line) (ws : List (List ℕ)) → declares l ≡ true → ValidLine (event ws) → spell_line l ≡ spell_line (event ws) → ⊥
unfolding spell_line ValidLine ValidNames kind_of same
event_no_line (role w p) [] d g e = let z : ◌≡◌ {A = ℕ} 0 1 = cc in omega arith
event_no_line (rule w p t x) [] d g e = let z : ◌≡◌ {A = ℕ} 0 1 = cc in omega arith
event_no_line (role w p) (v ∷ ws) d g e = let q : v ≡ 114 ∷ 111 ∷ 108 ∷ 101 ∷ [] = cc in let z = rw q at g.0 in omega arith
event_no_line (rule w p t x) (v ∷ ws) d g e = let q : v ≡ 114 ∷ 117 ∷ 108 ∷ 101 ∷ [] = cc in let z = rw q at g.0 in omega arith
event_no_line (event vs) ws d g e = let z : ◌≡◌ {A = ℕ} 0 1 = cc in omega arith

both_lines : (s : List ℕ) (l k : Line) → Says s l → Says s k → declares l ≡ true → declares k ≡ true → l ≡ k
both_lines s l k h g d c = let a = says-line s l h d in let b = says-line s k g c in cc

both_events : (s : List ℕ) (l k : Line) → Says s l → Says s k → happens l ≡ true → happens k ≡ true → l ≡ k
both_events s l k h g d c = let a = says-event s l h d in let b = says-event s k g c in cc

line_and_event : (s : List ℕ) (l : Line) (ws : List (List ℕ)) → Says s l → Says s (event ws) → declares l ≡ true → ⊥
line_and_event s l ws h g d = event_no_line l ws d g.valid (sym h.spelled ∙ g.spelled)

-- "it has a single reading": two lines that a text says are the same, of all three kinds
pub single_reading : (s : List ℕ) (l k : Line) → Says s l → Says s k → l ≡ k
single_reading s (role w p) (role v q) h g = both_lines s (role w p) (role v q) h g refl refl
single_reading s (role w p) (rule v q t x) h g = both_lines s (role w p) (rule v q t x) h g refl refl
single_reading s (role w p) (event ws) h g = absurd (line_and_event s (role w p) ws h g refl)
single_reading s (rule w p t x) (role v q) h g = both_lines s (rule w p t x) (role v q) h g refl refl
single_reading s (rule w p t x) (rule v q u y) h g = both_lines s (rule w p t x) (rule v q u y) h g refl refl
single_reading s (rule w p t x) (event ws) h g = absurd (line_and_event s (rule w p t x) ws h g refl)
single_reading s (event ws) (role v q) h g = absurd (line_and_event s (role v q) ws g h refl)
single_reading s (event ws) (rule v q t x) h g = absurd (line_and_event s (rule v q t x) ws g h refl)
single_reading s (event ws) (event vs) h g = both_events s (event ws) (event vs) h g refl refl
