-- Demand 2 in document 01's words, of the book at any call: what is taken and what is refused, exactly; and how an event is answered.
-- Assumes nothing.
use Rattle.std.proofs.Common.{◌≡◌, refl, ap, ◌∙◌, subst, true, ◌↔◌, ◌⊎◌, inl, inr, List, ℕ, ◌<◌, arith, length}
use Rattle.std.proofs.lemmas.List.{length-map}
use Rattle.common.specs.Limits.{max_rules}
use Rattle.lexer.specs.Words.{same}
use Rattle.grammar.specs.AsRead.{Past, Pattern, Response, rule}
use Rattle.grammar.specs.Names.{rule_names}
use Rattle.patterns.specs.Roles.{all_held}
use Rattle.patterns.specs.Meets.{order_of}
use Rattle.intake.specs.Asked.{Asked, refused_by, asks_role, asks_rule, asks_event}
use Rattle.intake.specs.Rows as asks
use Rattle.intake.specs.Rows.{SaysLine, SaysEvent, row_2, row_3, row_4_line, row_4_event, row_5_role, row_5_rule, row_6_role, row_6_rule, row_6_event, row_7, row_8_role, row_8_rule, takes_role, takes_rule, takes_event}
use Rattle.intake.proofs.LongPasts.{every_past, no_row_7}
use Rattle.chain.specs.Work.{chain, work_event}
use Rattle.book.specs.Names.{Name, Event, Roles, Duty, Outcome}
use Rattle.book.specs.Decide.{Call, Decision, refused, new_role, new_rule, worked, duty_names, granted, outcome_reply, answer}
use Rattle.book.specs.Book.{Book, book_duty, book_duties, book_decides, book_next, book_step}
use Rattle.book.specs.Session.{left}
use Rattle.book.specs.Operations.{Operation}
use Rattle.book.specs.SessionBook.{fresh_session, book_operate}
use Rattle.book.specs.Working.{WorkEnds}
use Rattle.book.specs.Rows.{Lends, CallRow, row_1, rows_on, Allowed, allowed_role, allowed_rule, allowed_event, Full, full-roles, full-rules}
use Rattle.book.proofs.Rows.{decided, decided_exactly}
use Rattle.book.proofs.Working.{work_exactly}
use Rattle.book.proofs.Whole.{operations_sound}

-- NUMBERS

-- what each decision's number tells
data Told (rs : Roles) (ds : List Duty) (c : Call) : Decision → Type 0 where
  told-row : {n : ℕ} → 0 < n → n < 8 → Told rs ds c (refused n)
  told-full : Full rs ds c → Told rs ds c (refused 8)
  told-taken : {d : Decision} → Allowed rs ds c → ((l : List ℕ) → (answer d l).number ≡ 0) → Told rs ds c d

asked-told : (rs : Roles) (ds : List Duty) (c : Call) (a : Asked) → Lends c → asks.RecordRow rs (duty_names ds) c.bytes a → Told rs ds c (granted rs ds a)
unfolding answer
asked-told rs ds c a k (row_2 h) = told-row {n = 2} (omega arith) (omega arith)
asked-told rs ds c a k (row_3 n f) = told-row {n = 3} (omega arith) (omega arith)
asked-told rs ds c a k (row_4_line f h) = told-row {n = 4} (omega arith) (omega arith)
asked-told rs ds c a k (row_4_event f h) = told-row {n = 4} (omega arith) (omega arith)
asked-told rs ds c a k (row_5_role s t) = told-row {n = 5} (omega arith) (omega arith)
asked-told rs ds c a k (row_5_rule s t) = told-row {n = 5} (omega arith) (omega arith)
asked-told rs ds c a k (row_6_role s f h) = told-row {n = 6} (omega arith) (omega arith)
asked-told rs ds c a k (row_6_rule s f h) = told-row {n = 6} (omega arith) (omega arith)
asked-told rs ds c a k (row_6_event s h) = told-row {n = 6} (omega arith) (omega arith)
asked-told rs ds c a k (row_7 s f h z) = told-row {n = 7} (omega arith) (omega arith)
asked-told rs ds c a k (row_8_role s l) = told-full (full-roles k s l)
asked-told rs ds c a k (row_8_rule s l) = let q = length-map ds (λ (d : Duty). d.rule) in told-full (full-rules k s (omega arith))
asked-told rs ds c a k (takes_role s l) = told-taken (allowed_role k s l) (λ l. refl)
asked-told rs ds c a k (takes_rule s l) = let q = length-map ds (λ (d : Duty). d.rule) in told-taken (allowed_rule k s (omega arith)) (λ l. refl)
asked-told rs ds c a k (takes_event s h) = told-taken (allowed_event k s h) (λ l. refl)

told : (rs : Roles) (ds : List Duty) (c : Call) (d : Decision) → CallRow rs ds c d → Told rs ds c d
told rs ds c d (row_1 h) = told-row {n = 1} (omega arith) (omega arith)
told rs ds c d (rows_on {a = a} l r) = asked-told rs ds c a l r

number_is : (n : ℕ) (d : Decision) (l : List ℕ) → 0 < n → (answer d l).number ≡ n → d ≡ refused n
unfolding answer
number_is n (refused m) l h q = ap refused q
number_is n (new_role w p) l h q = absurd (omega arith)
number_is n (new_rule r) l h q = absurd (omega arith)
number_is n (worked o) l h q = absurd (omega arith)

is_number : (n : ℕ) (d : Decision) (l : List ℕ) → d ≡ refused n → (answer d l).number ≡ n
unfolding answer
is_number n d l q = ap (λ (x : Decision). (answer x l).number) q

module _ (b : Book) (c : Call) where
  -- The number given is a row's exactly when that row refuses the call.
  pub number_exactly : (n : ℕ) → 0 < n → ((book_step b c).1.number ≡ n) ↔ CallRow b.roles (book_duties b) c (refused n)
  number_exactly n h = (
    λ q. (decided_exactly b.roles (book_duties b) c (refused n)).0 (number_is n (book_decides b c) c.buffer h q),
    λ r. is_number n (book_decides b c) c.buffer ((decided_exactly b.roles (book_duties b) c (refused n)).1 r),
  )

  -- "Each call also returns a number, 0 when taken.": 0 exactly when the grammar, the names and the limits allow the line or the event.
  pub taken_exactly : ((book_step b c).1.number ≡ 0) ↔ Allowed b.roles (book_duties b) c
  unfolding answer
  taken_exactly = (λ q. go (book_decides b c) (told b.roles (book_duties b) c (book_decides b c) (decided b.roles (book_duties b) c)) q, back)
    where
      go : (d : Decision) → Told b.roles (book_duties b) c d → (answer d c.buffer).number ≡ 0 → Allowed b.roles (book_duties b) c
      go d (told-row h k) q = absurd (omega arith)
      go d (told-full f) q = absurd (omega arith)
      go d (told-taken a f) q = a

      number_of : (d : Decision) → CallRow b.roles (book_duties b) c d → (answer d c.buffer).number ≡ 0 → (answer (book_decides b c) c.buffer).number ≡ 0
      number_of d r q = ap (λ (x : Decision). (answer x c.buffer).number) ((decided_exactly b.roles (book_duties b) c d).1 r) ∙ q

      back : Allowed b.roles (book_duties b) c → (answer (book_decides b c) c.buffer).number ≡ 0
      back (allowed_role k s l) = number_of _ (rows_on k (takes_role s l)) refl
      back (allowed_rule k s l) = let q = length-map (book_duties b) (λ (d : Duty). d.rule) in number_of _ (rows_on k (takes_rule s (omega arith))) refl
      back (allowed_event k s h) = number_of _ (rows_on k (takes_event s h)) refl

  -- Row 8, "role line with 64 roles held, top included; or rule line with 32 rules held", exactly: "A monitor that said 8 with a place free breaks demand 2".
  pub eight_exactly : ((book_step b c).1.number ≡ 8) ↔ Full b.roles (book_duties b) c
  unfolding answer
  eight_exactly = (λ q. go (book_decides b c) (told b.roles (book_duties b) c (book_decides b c) (decided b.roles (book_duties b) c)) q, back)
    where
      go : (d : Decision) → Told b.roles (book_duties b) c d → (answer d c.buffer).number ≡ 8 → Full b.roles (book_duties b) c
      go d (told-row h k) q = absurd (omega arith)
      go d (told-full f) q = f
      go d (told-taken a f) q = let z = f c.buffer in absurd (omega arith)

      back : Full b.roles (book_duties b) c → (book_step b c).1.number ≡ 8
      back (full-roles k s l) = (number_exactly 8 (omega arith)).1 (rows_on k (row_8_role s l))
      back (full-rules k s l) = let q = length-map (book_duties b) (λ (d : Duty). d.rule) in (number_exactly 8 (omega arith)).1 (rows_on k (row_8_rule s (omega arith)))

  -- Row 7: "A line of 126 bytes can't hold 64 patterns, so refusal 7 can no longer be met, and the team shows this." (C-15)
  pub seven_never : (book_step b c).1.number ≡ 7 → ⊥
  unfolding answer
  seven_never = go (book_decides b c) (decided b.roles (book_duties b) c)
    where
      of_record : (a : Asked) → asks.RecordRow b.roles (duty_names (book_duties b)) c.bytes a → (answer (granted b.roles (book_duties b) a) c.buffer).number ≡ 7 → ⊥
      of_record (refused_by n) r q = no_row_7 b.roles (duty_names (book_duties b)) c.bytes (subst (λ (k : ℕ). asks.RecordRow b.roles (duty_names (book_duties b)) c.bytes (refused_by k)) q r)
      of_record (asks_role n p) r q = omega arith
      of_record (asks_rule x) r q = omega arith
      of_record (asks_event e) r q = omega arith

      go : (d : Decision) → CallRow b.roles (book_duties b) c d → (answer d c.buffer).number ≡ 7 → ⊥
      go d (row_1 h) q = omega arith
      go d (rows_on {a = a} l r) q = of_record a r q

  -- So a rule line is taken whatever its past, where its names and a free place allow it.
  pub every_past_taken : (n : Name) (p : Past) (t : Pattern) (x : Response) → Lends c → SaysLine c.bytes (rule n p t x) → asks.Free b.roles (duty_names (book_duties b)) n
      → all_held same b.roles (rule_names p t x) ≡ true → length (book_duties b) < max_rules → (book_step b c).1.number ≡ 0
  every_past_taken n p t x l s f h m = taken_exactly.1 (allowed_rule l (every_past b.roles (duty_names (book_duties b)) c.bytes n p t x s f h) m)

  -- "The monitor is unchanged by every row."
  pub refused-same : (n : ℕ) → book_decides b c ≡ refused n → (book_step b c).0 ≡ b
  refused-same n q = ap (book_next b) q

  -- Row 1: "reply buffer not 50 bytes; it is untouched"
  pub row_one : (length c.buffer ≡ 50 → ⊥) → book_step b c ≡ (b, record { number = 1; buffer = c.buffer })
  unfolding answer
  row_one h = ap (λ (d : Decision). (book_next b d, answer d c.buffer)) ((decided_exactly b.roles (book_duties b) c (refused 1)).1 (row_1 h))

  -- An accepted event is answered with the reply of the outcome that "Working an act" gives, and with no other: no count is invented, and no T is early.
  pub event-answered : (e : Event) (o : Outcome) → Lends c → SaysEvent c.bytes e → all_held same b.roles e ≡ true → WorkEnds (chain (order_of same b.roles) (book_duties b)) e o
      → (book_step b c).1 ≡ record { number = 0; buffer = outcome_reply o }
  unfolding answer
  event-answered e o l s h k =
      ap (λ (d : Decision). answer d c.buffer)
      ((decided_exactly b.roles (book_duties b) c (worked (work_event (order_of same b.roles) (book_duties b) e))).1 (rows_on l (takes_event s h))
      ∙ ap worked ((work_exactly (order_of same b.roles) (book_duties b) e o).1 k))

-- LIMITS

-- After any operations 8 is said only where all places are held, 64 and 32, exactly.
pub eight_full : (os : List Operation) (c : Call) → (book_step (left book_operate fresh_session os).book c).1.number ≡ 8
    → (length (left book_operate fresh_session os).book.roles ≡ 64) ⊎ (length (left book_operate fresh_session os).book.rules ≡ 32)
eight_full os c q = go ((eight_exactly (left book_operate fresh_session os).book c).0 q)
  where
    go : Full (left book_operate fresh_session os).book.roles (book_duties (left book_operate fresh_session os).book) c
        → (length (left book_operate fresh_session os).book.roles ≡ 64) ⊎ (length (left book_operate fresh_session os).book.rules ≡ 32)
    go (full-roles m s l) = let h = (operations_sound os).few-roles in inl (omega arith)
    go (full-rules m s l) =
        let b : Book = (left book_operate fresh_session os).book in
        let h = (operations_sound os).few-rules in
        let k = length-map b.rules (book_duty b.roles b.history) in
        inr (omega arith)
