-- The judge. Document 01: "The judge checks 9, then 10, then its records in turn by 3, 4 and 6; the first refusal found is its answer. It otherwise says
-- yes or no and writes nothing."
-- Assumes nothing.
use Rattle.std.specs.Prelude.{Bool, cond, ◌&&◌, List, [], ◌∷◌, ◌++◌, ℕ, ◌*◌, ◌/◌, ◌%◌, eqb, leb, length}
use Rattle.std.proofs.Math.Option.{Option, none, some}
use Rattle.common.specs.Limits.{record_size, max_records}
use Rattle.lexer.specs.Words.{same}
use Rattle.grammar.specs.AsRead.{Past, Line}
use Rattle.grammar.specs.Lines.{read_event}
use Rattle.frame.specs.Text.{text_of}
use Rattle.frame.specs.Record.{frame_of}
use Rattle.frame.specs.Records.{records_of}
use Rattle.frame.specs.Record.{Frame}
use Rattle.frame.specs.Record.{Line as LineRecord, Event as EventRecord, WrongLength, Malformed as MalformedRecord}
use Rattle.patterns.specs.Meets.{order_of, meets}
use Rattle.positions.specs.Matcher.{matches}
use Rattle.follow.specs.Meaning.{past_meaning}
use Rattle.intake.specs.Asked.{Asked, refused_by, asks_role, asks_rule, asks_event, asked_event}
use Rattle.intake.specs.Names.{Event, Roles, Rule}
use Rattle.intake.specs.Machine.{PositionRule, PositionMachine}
use Rattle.judge.specs.Verdict.{Verdict, Yes, No, NoRule, NotWhole, Malformed, NotInLanguage, Unknown}

-- document 01's number of each answer; yes and no refuse nothing
abbrev pub number_of : Verdict → ℕ
number_of Yes = 0
number_of No = 0
number_of NoRule = 9
number_of NotWhole = 10
number_of Malformed = 3
number_of NotInLanguage = 4
number_of Unknown = 6

-- what a record gives: an event (document 01: act), or a refusal
pub data RecordAnswer : Type 0 where
  an_event : Event → RecordAnswer
  refusal : Verdict → RecordAnswer

-- the answer where row n refuses: 4, "text not in the language"; 6, "a role used .. isn't declared"; the rows before them are 3 to the judge
abbrev pub verdict_by : ℕ → Verdict
verdict_by n = cond (eqb n 6) Unknown (cond (eqb n 4) NotInLanguage Malformed)

-- what a record gives that asks this: only an event is taken
abbrev pub answer_by : Asked → RecordAnswer
answer_by (refused_by n) = refusal (verdict_by n)
answer_by (asks_role w p) = refusal Malformed
answer_by (asks_rule r) = refusal Malformed
answer_by (asks_event e) = an_event e

-- 4, then 6, as the one table has them (intake, specs/Asked.antt)
unfoldable pub text_answer : Roles → Option Line → RecordAnswer
text_answer rs o = answer_by (asked_event rs o)

-- 3, "byte 0 not `L` or `E` (judge: not `E`)"
unfoldable pub frame_answer : Roles → Frame → List ℕ → RecordAnswer
frame_answer rs EventRecord s = text_answer rs (read_event s)
frame_answer rs LineRecord s = refusal Malformed
frame_answer rs WrongLength s = refusal Malformed
frame_answer rs MalformedRecord s = refusal Malformed

-- what a record gives: refusals 3, 4 and 6, or its event
unfoldable pub record_answer : Roles → List ℕ → RecordAnswer
record_answer rs s = frame_answer rs (frame_of s) (text_of s)

-- "the first refusal found is its answer"
abbrev pub on_answer : RecordAnswer → (Event → Verdict) → Verdict
on_answer (an_event e) go = go e
on_answer (refusal v) go = v

-- "its records in turn", and then yes or no by Appendix A over the list given: es are the events so far
unfoldable pub judge_records : Roles → Past → List Event → List (List ℕ) → Verdict
judge_records rs p es [] = cond (matches (meets (order_of same rs)) (past_meaning p) es) Yes No
judge_records rs p es (r ∷ l) = on_answer (record_answer rs r) (λ e. judge_records rs p (es ++ (e ∷ [])) l)

-- "no rule of that number (0 is the first)"; rules stand the last declared first
abbrev pub rule_numbered : List PositionRule → ℕ → Option Rule
rule_numbered [] i = none
rule_numbered (x ∷ l) i = cond (eqb i (length l)) (some x.rule) (rule_numbered l i)

-- the opposite of "buffer not whole records, or over 256 of them"
unfoldable pub is_whole : List ℕ → Bool
is_whole s = eqb (length s % record_size) 0 && leb (length s) (max_records * record_size)

-- 9, "no rule of that number"
abbrev pub on_rule : Option Rule → (Rule → Verdict) → Verdict
on_rule none go = NoRule
on_rule (some r) go = go r

-- 9, then 10, then the records
unfoldable pub judge_of : PositionMachine → ℕ → List ℕ → Verdict
judge_of t i s = on_rule (rule_numbered t.rules i) (λ r. cond (is_whole s) (judge_records t.roles r.past [] (records_of (length s / record_size) s)) NotWhole)
