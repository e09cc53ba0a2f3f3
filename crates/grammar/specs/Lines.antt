-- What a record's text says. Document 01, "The rule language".
-- Assumes nothing.
use Rattle.std.specs.Prelude.{◌≡◌, Bool, true, false, List, ℕ, length, Some, None}
use Rattle.std.specs.Prelude as prelude
use Rattle.std.proofs.Math.Option.{Option, none, some}
use Rattle.lexer.specs.Tokens.{tokens}
use Rattle.grammar.specs.AsRead.{Line, role, rule, event}
use Rattle.grammar.specs.Spell.{spell_line}
use Rattle.grammar.specs.Valid.{ValidLine}
use Rattle.grammar.specs.Parsed.{wholly}
use Rattle.grammar.specs.Parser.{role_of, rule_of, event_of, depth}
use Rattle.grammar.specs.declared.lines.LineKind.{LineKind}
use Rattle.grammar.specs.declared.lines.LineKind.TheVariants.{Role, Rule}

-- A text says a line: its tokens spell it. With no parser: this is what "in the language" means.
pub record Says (s : List ℕ) (l : Line) : Type 0 where
  pub valid : ValidLine l
  pub spelled : tokens s ≡ spell_line l

-- "Byte 0 is `L` (a line) or `E` (an act)": the texts of either
abbrev pub declares : Line → Bool
declares (role w p) = true
declares (rule w p t x) = true
declares (event ws) = false

-- the texts of an act
abbrev pub happens : Line → Bool
happens (role w p) = false
happens (rule w p t x) = false
happens (event ws) = true

-- the first of two readings that there is
abbrev pub or_else : {A : Type 0} → Option A → Option A → Option A
or_else none d = d
or_else (some a) d = some a

-- the role line or rule line that a text says, or none
unfoldable pub read_line : List ℕ → Option Line
read_line s = or_else (wholly (rule_of (depth (length s)) (tokens s))) (wholly (role_of (tokens s)))

-- the event (document 01: act) that a text says, or none
unfoldable pub read_event : List ℕ → Option Line
read_event s = wholly (event_of (tokens s))

-- which kind of line it is; None where it declares nothing
abbrev pub kind_of_line : Option Line → prelude.Option LineKind
kind_of_line none = None
kind_of_line (some (role w p)) = Some Role
kind_of_line (some (rule w p t x)) = Some Rule
kind_of_line (some (event ws)) = None
