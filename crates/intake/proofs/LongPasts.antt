-- Row 7 is met by no record. Document 02, C-15: "A line of 126 bytes can't hold 64 patterns, so refusal 7 can no longer be met, and the team shows this."
-- Assumes nothing.
use Rattle.std.proofs.Common.{◌≡◌, refl, ap, true, List, ℕ, ◌≤◌, arith}
use Rattle.lexer.specs.Words.{same}
use Rattle.grammar.specs.AsRead.{Past, Pattern, Response, rule}
use Rattle.grammar.specs.Names.{rule_names}
use Rattle.grammar.specs.Size.{size_past}
use Rattle.grammar.specs.LongestPast.{longest_past}
use Rattle.grammar.proofs.LongestPast.{past_room}
use Rattle.frame.specs.Text.{text_of}
use Rattle.patterns.specs.Roles.{all_held}
use Rattle.intake.specs.Names.{Name, Roles}
use Rattle.intake.specs.Asked.{Asked, refused_by, asks_role, asks_rule, asks_event, asked}
use Rattle.intake.specs.Rows.{SaysLine, Free, RulePasses, RecordRow, row_2, row_3, row_4_line, row_4_event, row_5_role, row_5_rule, row_6_role, row_6_rule, row_6_event, row_7, row_8_role, row_8_rule, takes_role, takes_rule, takes_event}
use Rattle.intake.proofs.AskLaws.{text-small}
use Rattle.intake.proofs.Rows.{asked-row}

-- the past of a record's rule line has 55 patterns at most
pub few_patterns : (s : List ℕ) (n : Name) (p : Past) (t : Pattern) (x : Response) → SaysLine s (rule n p t x) → size_past p ≤ longest_past
few_patterns s n p t x k = past_room (text_of s) n p t x (text-small s) k.says

-- the number of a refusal; 0 of what is not refused
abbrev number : Asked → ℕ
number (refused_by n) = n
number (asks_role n p) = 0
number (asks_rule r) = 0
number (asks_event e) = 0

module _ (rs : Roles) (ns : List Name) (s : List ℕ) where
  -- A rule line that rows 2 to 6 leave is left by row 7 too: the limit keeps no past out.
  pub every_past : (n : Name) (p : Past) (t : Pattern) (x : Response) → SaysLine s (rule n p t x) → Free rs ns n → all_held same rs (rule_names p t x) ≡ true
      → RulePasses rs ns s (record { name = n; past = p; trigger = t; response = x })
  every_past n p t x k f h = let m = few_patterns s n p t x k in record { said = k; free = f; known = h; small = omega arith }

  met : (a : Asked) → RecordRow rs ns s a → number a ≡ 7 → ⊥
  met a (row_2 h) e = omega arith
  met a (row_3 n f) e = omega arith
  met a (row_4_line f h) e = omega arith
  met a (row_4_event f h) e = omega arith
  met a (row_5_role k t) e = omega arith
  met a (row_5_rule k t) e = omega arith
  met a (row_6_role k f h) e = omega arith
  met a (row_6_rule k f h) e = omega arith
  met a (row_6_event k h) e = omega arith
  met a (row_7 {n = n} {p = p} {t = t} {x = x} k f h z) e = let m = few_patterns s n p t x k in omega arith
  met a (row_8_role k l) e = omega arith
  met a (row_8_rule k l) e = omega arith
  met a (takes_role k l) e = omega arith
  met a (takes_rule k l) e = omega arith
  met a (takes_event k h) e = omega arith

  -- No record, of any bytes and length, is refused by row 7, whatever roles and rules are held.
  pub no_row_7 : RecordRow rs ns s (refused_by 7) → ⊥
  no_row_7 r = met (refused_by 7) r refl

  pub never_seven : asked rs ns s ≡ refused_by 7 → ⊥
  never_seven e = met (asked rs ns s) (asked-row rs ns s) (ap number e)
