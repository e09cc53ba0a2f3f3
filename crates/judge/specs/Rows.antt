-- Which answer the judge gives, and when: rows 9, 10, 3, 4 and 6 of document 01's table "Refusals, in the order checked", and else yes or no by Appendix A,
-- with nothing to compute. It is read off the roles and the rules alone, so what a rule has seen plays no part. `judged_exactly` of proofs/Exactly.antt says
-- that `judge_of` gives exactly this.
-- Assumes nothing.
use Rattle.std.specs.Prelude.{◌≡◌, true, false, List, [], ◌∷◌, map, ℕ, ◌*◌, ◌≤◌, ◌<◌, length, get_or}
use Rattle.common.specs.Limits.{record_size, max_records}
use Rattle.lexer.specs.Words.{same}
use Rattle.grammar.specs.AsRead.{Line, event}
use Rattle.grammar.specs.Lines.{Says, happens}
use Rattle.frame.specs.Text.{text_of}
use Rattle.frame.specs.Record.{event_byte}
use Rattle.frame.specs.Records.{records_of}
use Rattle.frame.specs.Framed.{Framed, Fault}
use Rattle.patterns.specs.Roles.{all_held}
use Rattle.patterns.specs.Meets.{order_of, meets}
use Rattle.positions.specs.Past.{Sat}
use Rattle.follow.specs.Meaning.{past_meaning}
use Rattle.intake.specs.Names.{Event, Roles, Rule}
use Rattle.book.specs.Book.{Book}
use Rattle.intake.specs.Machine.{PositionRule}
use Rattle.judge.specs.Judge.{number_of}
use Rattle.judge.specs.Verdict.{Verdict, Yes, No}

-- the rules of a machine with positions, without what they have seen
abbrev pub rules_of : List PositionRule → List Rule
rules_of l = map (λ x. x.rule) l

-- the same of a book
abbrev pub book_rules : Book → List Rule
book_rules b = map (λ x. x.rule) b.rules

-- "a rule of that number (0 is the first)": as many were declared before it. Rules stand the last declared first.
pub data Numbered : List Rule → ℕ → Rule → Type 0 where
  newest : {r : Rule} {l : List Rule} {i : ℕ} → i ≡ length l → Numbered (r ∷ l) i r
  older : {x r : Rule} {l : List Rule} {i : ℕ} → Numbered l i r → Numbered (x ∷ l) i r

-- the opposite of "buffer not whole records, or over 256 of them"
pub record Whole (s : List ℕ) (n : ℕ) : Type 0 where
  pub size : length s ≡ n * record_size
  pub few : n ≤ max_records

module _ (rs : Roles) where
  -- a record that says the event e (document 01: act), of roles that are declared
  pub record Act (s : List ℕ) (e : Event) : Type 0 where
    pub framed : Framed event_byte s
    pub says : Says (text_of s) (event e)
    pub known : all_held same rs e ≡ true

  -- a record that is refused
  pub data RecordRefused (s : List ℕ) : ℕ → Type 0 where
    -- "byte 0 not `L` or `E` (judge: not `E`), byte 127 not newline, or a text byte of class 0"
    record_3 : Fault s → RecordRefused s 3
    record_3_line : (get_or s 0 0 ≡ event_byte → ⊥) → RecordRefused s 3
    -- "text not in the language"
    record_4 : Framed event_byte s → ((l : Line) → happens l ≡ true → Says (text_of s) l → ⊥) → RecordRefused s 4
    -- "a role used (.. in an act) isn't declared"
    record_6 : {e : Event} → Framed event_byte s → Says (text_of s) (event e) → all_held same rs e ≡ false → RecordRefused s 6

  -- each record says an event
  pub data Acts : List (List ℕ) → List Event → Type 0 where
    acts-none : Acts [] []
    acts-more : {s : List ℕ} {e : Event} {l : List (List ℕ)} {es : List Event} → Act s e → Acts l es → Acts (s ∷ l) (e ∷ es)

  -- "its records in turn by 3, 4 and 6; the first refusal found": the records before it say events
  pub data FirstRefused : List (List ℕ) → ℕ → Type 0 where
    refused-first : {s : List ℕ} {l : List (List ℕ)} {k : ℕ} → RecordRefused s k → FirstRefused (s ∷ l) k
    refused-after : {s : List ℕ} {e : Event} {l : List (List ℕ)} {k : ℕ} → Act s e → FirstRefused l k → FirstRefused (s ∷ l) k

  module _ (rules : List Rule) (i : ℕ) (s : List ℕ) where
    -- "The judge checks 9, then 10, then its records"
    pub data VerdictRefused : ℕ → Type 0 where
      -- "no rule of that number (0 is the first)"
      refused_9 : length rules ≤ i → VerdictRefused 9
      -- "buffer not whole records, or over 256 of them"
      refused_10 : i < length rules → ((n : ℕ) → Whole s n → ⊥) → VerdictRefused 10
      refused_record : {n k : ℕ} → i < length rules → Whole s n → FirstRefused (records_of n s) k → VerdictRefused k

    -- no row refuses: rule i is r, and the buffer's records say es
    pub record Given (r : Rule) (es : List Event) : Type 0 where
      pub number : Numbered rules i r
      pub count : ℕ
      pub whole : Whole s count
      pub acts : Acts (records_of count s) es

    -- "It otherwise says yes or no": yes where the list given matches the rule's past, by Appendix A and the roles held
    pub data VerdictRow : Verdict → Type 0 where
      row-yes : {r : Rule} {es : List Event} → Given r es → Sat (meets (order_of same rs)) es (past_meaning r.past) → VerdictRow Yes
      row-no : {r : Rule} {es : List Event} → Given r es → (Sat (meets (order_of same rs)) es (past_meaning r.past) → ⊥) → VerdictRow No
      row-refused : {v : Verdict} → VerdictRefused (number_of v) → VerdictRow v
