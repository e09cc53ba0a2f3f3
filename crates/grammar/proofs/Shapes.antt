-- What each parser of lines gives is a line of its own kind.
-- Assumes nothing.
use Rattle.std.proofs.Common.{◌≡◌, refl, true, false, List, [], ◌∷◌, ℕ, arith, length}
use Rattle.std.proofs.Math.Option as option
use Rattle.lexer.specs.Tokens.{Token, tokens}
use Rattle.grammar.specs.AsRead.{Line, role, rule, event}
use Rattle.grammar.specs.Parsed.{Parsed, none, some, map, bind, word_is, is_none, whole, wholly}
use Rattle.grammar.specs.Parser.{role_of, head_of, past_of, tail_of, rule_of, names_of, event_of, depth}
use Rattle.grammar.specs.Lines.{or_else, read_line, kind_of_line}
use Rattle.std.specs.Prelude.{Option, Some, None}
use Rattle.grammar.specs.declared.lines.LineKind.{LineKind}
use Rattle.grammar.specs.declared.lines.LineKind.TheVariants.{Role, Rule}

-- what a line declares
abbrev pub Kind : Type 0
Kind = Option LineKind

abbrev ShapedAs : (Line → Kind) → Kind → Parsed Line → Type 0
ShapedAs kind k none = Unit {0}
ShapedAs kind k (some l ts) = kind l ≡ k

-- what was read is of the kind k
pub record Shaped (kind : Line → Kind) (k : Kind) (p : Parsed Line) : Type 0 where
  pub it : ShapedAs kind k p

abbrev pub kind_of : Line → Kind
kind_of l = kind_of_line (option.some l)

map_shaped : {A : Type 0} (k : Kind) (f : A → Line) → ((a : A) → kind_of (f a) ≡ k) → (p : Parsed A) → Shaped kind_of k (map f p)
map_shaped k f h none = record { it = tt }
map_shaped k f h (some a ts) = record { it = h a }

bind_shaped : {A : Type 0} (k : Kind) (p : Parsed A) (g : A → List Token → Parsed Line) → ((a : A) (ts : List Token) → Shaped kind_of k (g a ts)) → Shaped kind_of k (bind p g)
bind_shaped k none g h = record { it = tt }
bind_shaped k (some a ts) g h = h a ts

pub rule_shaped : (f : ℕ) (ts : List Token) → Shaped kind_of (Some Rule) (rule_of f ts)
unfolding rule_of
rule_shaped f ts = bind_shaped (Some Rule) (head_of ts) _ (λ w us. bind_shaped (Some Rule) (past_of f us) _ (λ p vs. map_shaped (Some Rule) (λ t. rule w p t.0 t.1) (λ t. refl) (tail_of f vs)))

pub role_shaped : (ts : List Token) → Shaped kind_of (Some Role) (role_of ts)
unfolding role_of
role_shaped ts = bind_shaped (Some Role) (word_is 1 ts) _ (λ a us. bind_shaped (Some Role) (word_is 0 us) _ (λ w vs. bind_shaped (Some Role) (word_is 2 vs) _ (λ b xs. map_shaped (Some Role) (role w) (λ p. refl) (word_is 0 xs))))

pub event_shaped : (ts : List Token) → Shaped kind_of None (event_of ts)
unfolding event_of
event_shaped ts = map_shaped None event (λ ws. refl) (names_of 4 ts)

-- whether all was read, and what was read

first_kind : (k : Kind) (p : Parsed Line) (d : option.Option Line) → Shaped kind_of k p → whole p ≡ true → kind_of_line (or_else (wholly p) d) ≡ k
unfolding whole wholly is_none
first_kind k none d h e = let z : ◌≡◌ {A = ℕ} 0 1 = cc in absurd (omega arith)
first_kind k (some l []) d h e = h.it
first_kind k (some l (t ∷ ts)) d h e = let z : ◌≡◌ {A = ℕ} 0 1 = cc in absurd (omega arith)

next-kind : (p : Parsed Line) (d : option.Option Line) → whole p ≡ false → kind_of_line (or_else (wholly p) d) ≡ kind_of_line d
unfolding whole wholly is_none
next-kind none d e = refl
next-kind (some l []) d e = let z : ◌≡◌ {A = ℕ} 0 1 = cc in absurd (omega arith)
next-kind (some l (t ∷ ts)) d e = refl

no_line : (p : Parsed Line) → whole p ≡ false → kind_of_line (wholly p) ≡ None
unfolding whole wholly is_none
no_line none e = refl
no_line (some l []) e = let z : ◌≡◌ {A = ℕ} 0 1 = cc in absurd (omega arith)
no_line (some l (t ∷ ts)) e = refl

or-none : (a : option.Option Line) → or_else a option.none ≡ a
or-none option.none = refl
or-none (option.some l) = refl

-- the answers of `line_kind`
module _ (s : List ℕ) where
  pub kind-rule : whole (rule_of (depth (length s)) (tokens s)) ≡ true → kind_of_line (read_line s) ≡ (Some Rule)
  unfolding read_line
  kind-rule e = first_kind (Some Rule) (rule_of (depth (length s)) (tokens s)) (wholly (role_of (tokens s))) (rule_shaped (depth (length s)) (tokens s)) e

  pub kind-role : whole (rule_of (depth (length s)) (tokens s)) ≡ false → whole (role_of (tokens s)) ≡ true → kind_of_line (read_line s) ≡ (Some Role)
  unfolding read_line
  kind-role e h =
      rw (next-kind (rule_of (depth (length s)) (tokens s)) (wholly (role_of (tokens s))) e, ← or-none (wholly (role_of (tokens s))))
      (first_kind (Some Role) (role_of (tokens s)) option.none (role_shaped (tokens s)) h)

  pub kind_neither : whole (rule_of (depth (length s)) (tokens s)) ≡ false → whole (role_of (tokens s)) ≡ false → kind_of_line (read_line s) ≡ None
  unfolding read_line
  kind_neither e h = rw (next-kind (rule_of (depth (length s)) (tokens s)) (wholly (role_of (tokens s))) e) (no_line (role_of (tokens s)) h)
