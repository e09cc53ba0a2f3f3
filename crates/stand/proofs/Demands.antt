-- THE CUSTOMER'S THREE DEMANDS, as theorems of the code. Every definition that they are made of is found from the imports; each statement is its own sentence's.
--
-- A session is a list of operations: single calls, batches of records in one call (document 02, C-11), keeping an image and restoring one (C-12). `LeftBy os m` says that
-- the operations os, done in turn on a fresh monitor by what `new`, `handle`, `handle_batch`, `keep` and `restore` promise, left the monitor m. `HandledAs m c a m'` is what
-- `handle` promises of the call c on m, of its answer a and of the monitor m' that it hands back; `BatchedAs`, `KeptAs` and `RestoredBy` are what `handle_batch`, `keep` and
-- `restore` promise. The functions are proved for any monitor, any records and any buffer, with no `requires`: they return, stay inside their buffers, and what they hand back
-- has that promise.
--
-- A host in another language holds no monitor but its image (C-13). `HostCalls h t a h'` is what `stand_run` promises of a call with the image buffer and the used number h
-- and the batch t: of the answer a, the number and the reply buffer, and of h', what the host holds afterwards. `HostSession h ts xs h'` is such calls in turn, each with what
-- the one before left.
-- Assumes nothing.
use Rattle.std.proofs.Common.{◌≡◌, refl, sym, ap, ◌∙◌, subst, true, List, ◌∷◌, ◌++◌, ◌↔◌, ℕ, ◌*◌, ◌≤◌, ◌<◌, arith, length, take, drop}
use Rattle.common.specs.All.{All}
use Rattle.common.specs.Limits.{reply_size, record_size}
use Rattle.lexer.specs.Words.{same}
use Rattle.grammar.specs.AsRead.{Past, Pattern, Response, Line, rule}
use Rattle.grammar.specs.Names.{rule_names}
use Rattle.grammar.specs.Size.{size_past}
use Rattle.grammar.specs.Lines.{Says}
use Rattle.grammar.proofs.Language.{single_reading}
use Rattle.grammar.proofs.LongestPast.{past_room, longest_there_is}
use Rattle.patterns.specs.Roles.{all_held}
use Rattle.patterns.specs.Meets.{order_of}
use Rattle.follow.specs.declared.state.State.{State}
use Rattle.intake.specs.Machine.{PositionMachine}
use Rattle.intake.specs.Represents.{Represents}
use Rattle.intake.specs.Rows.{SaysLine, SaysEvent, Free}
use Rattle.chain.specs.Work.{chain}
use Rattle.book.specs.Names.{Event, Outcome}
use Rattle.book.specs.Decide.{Call, Answer, refused, duty_names, outcome_reply}
use Rattle.book.specs.Book.{Book, fresh_book, book_duties, book_step}
use Rattle.book.specs.MachineSteps.{machine_of}
use Rattle.book.specs.Rows.{Lends, CallRow, Allowed, Full}
use Rattle.book.specs.Working.{WorkEnds}
use Rattle.book.specs.Session.{answers, left, Run}
use Rattle.book.specs.Batches.{BatchOf, calls_in, buffers}
use Rattle.book.specs.Operations.{Operation, restore, Result, kept, replaced, calls_made}
use Rattle.book.specs.SessionBook.{SessionBook, fresh_session, book_image, book_from, book_operate}
use Rattle.book.specs.Accepted.{Accepted}
use Rattle.book.specs.KeptRows.{KeptRow}
use Rattle.book.specs.Rounds.{room_records, HostImage, LentBatch, used_records, round_refused, round_taken, round_step, feed, calls_in_row, replies_taken}
use Rattle.book.specs.RoundRows.{Room, RoundRow, round_operations, OutcomeOf}
use Rattle.book.specs.Standing.{Unrestored, Story, Stands}
use Rattle.book.specs.Readings.{Does}
use Rattle.book.proofs.Whole.{operations_proper, image_determines, restore_goes_on}
use Rattle.book.proofs.Standing.{book_story, events_stand, operations_as_calls}
use Rattle.book.proofs.Readings.{any_reading}
use Rattle.book.proofs.Batches.{own_place}
use Rattle.book.proofs.AcceptedLaws.{accepted_exactly}
use Rattle.book.proofs.RoundLaws.{image_fits}
use Rattle.book.proofs.RoundRows as rows
use Rattle.book.proofs.Rounds.{fresh-says, image_says, given-says, rounds_write, feeding_in_row, replies_in_row}
use Rattle.monitor.specs.Handled.{Refused}
use Rattle.monitor.specs.Sessions.{Begun, HandledAs, Session}
use Rattle.monitor.specs.Marks.{MarksIn}
use Rattle.monitor.proofs.OfCode as code
use Rattle.monitor.proofs.OfCode.{KeepsBook}
use Rattle.batch.specs.Handled.{BatchedAs}
use Rattle.batch.proofs.Exactly as batches
use Rattle.snapshot.specs.Written.{state_image, KeptAs}
use Rattle.snapshot.specs.Reading.{RestoredBy}
use Rattle.snapshot.proofs.Exactly as snapshots
use Rattle.judge.specs.Judging.{lent_of, Judged}
use Rattle.judge.specs.Rows.{VerdictRow, book_rules}
use Rattle.judge.specs.Verdict.{Verdict}
use Rattle.judge.proofs.Exactly.{book_judged}
use Rattle.stand.specs.Operations.{OperatedAs, Operated, LeftBy, Ran}
use Rattle.stand.specs.Kinds.{OperationsRun}
use Rattle.stand.specs.Rounds.{shift, HostCalls, HostSession}
use Rattle.stand.proofs.WholeSession as whole
use Rattle.stand.proofs.WholeSession.{left-keeps}
use Rattle.stand.proofs.HandedOver.{HandedOver, handed_over}
use Rattle.stand.proofs.HostSessions.{call_is_round, calls_leave, calls-made, calls_are_book}

-- the plain book of a session after the operations: with the images kept so far, and the book itself
abbrev pub session : List Operation → SessionBook
session os = left book_operate fresh_session os

abbrev pub book : List Operation → Book
book os = (session os).book

-- DEMAND 1. "No record of any bytes or length and no order of calls makes the monitor stop short, read outside its buffers or end half changed. Each malformed
-- record, wrong name and full table has its fixed refusal, in a fixed order; the monitor is unchanged by it and the reply buffer after it is fixed to the byte."

-- The order of refusals: after any operations, the number of a call is n exactly when row n of document 01's table refuses it, every row before it being passed.
pub refused_by_row : (os : List Operation) (m m' : State) (c : Call) (a : Answer) → LeftBy os m → HandledAs m c a m'
    → (n : ℕ) → 0 < n → (a.number ≡ n) ↔ CallRow (book os).roles (book_duties (book os)) c (refused n)
refused_by_row os m m' c a l h = code.code_number (book os) m m' c a (left-keeps os m l) h

-- A refusal changes nothing, of any monitor at all: the monitor is the same, and the buffer is as lent (row 1) or has exactly the 50 bytes of that refusal.
pub refusal_changes_nothing : (m m' : State) (c : Call) (a : Answer) → HandledAs m c a m' → (a.number ≡ 0 → ⊥) → Refused m c.buffer a.buffer (record { number = a.number; monitor = m' })
refusal_changes_nothing m m' c a h = h.refused

-- C-11. "Turned away: 11, record buffer not whole records, over 512 of them, or reply buffer not 50 bytes for each": of any monitor at all, a batch's number is 11 exactly
-- when its buffers are those of no batch, and 0 exactly when they are those of n records and n replies, n from 0 to 512, whatever the records inside get.
pub batch_refused_by_size : (m m' : State) (s b : List ℕ) (a : Answer) → BatchedAs m s b a m' → (a.number ≡ 11) ↔ ((n : ℕ) → BatchOf n s b → ⊥)
batch_refused_by_size = batches.eleven_exactly

pub batch_taken_by_size : (m m' : State) (s b : List ℕ) (a : Answer) → BatchedAs m s b a m' → (a.number ≡ 0) ↔ ((n : ℕ) × BatchOf n s b)
batch_taken_by_size = batches.zero_exactly

-- "looked at first, both buffers untouched": then the reply buffer is as lent, and the monitor is the same. (The record buffer is lent to be read only.)
pub batch_refusal_changes_nothing : (m m' : State) (s b : List ℕ) (a : Answer) → BatchedAs m s b a m' → (a.number ≡ 0 → ⊥) → (a ≡ record { number = 11; buffer = b }) × (m' ≡ m)
batch_refusal_changes_nothing = batches.refusal-steady

-- C-12. "13, a lent buffer too short to keep into, looked at first and untouched, 0 records handed back"; else "how many records it wrote, and the rest of the lent buffer is
-- unchanged": of any monitor at all, by the image of its state; and the monitor is as it was.
pub keep_of_any_monitor : (m m' : State) (lent : List ℕ) (n k : ℕ) (b : List ℕ) → KeptAs m lent n k b m' → KeptRow (state_image m) lent (kept n k b) × (m' ≡ m)
keep_of_any_monitor = snapshots.keep_exactly

-- An image has at most 127 records, 63 roles after top and two for each of 32 rules: a buffer of 16,256 bytes is never too short.
pub keep_with_room : (m m' : State) (lent : List ℕ) (n k : ℕ) (b : List ℕ) → KeptAs m lent n k b m' → 127 * record_size ≤ length lent → n ≡ 0
keep_with_room = snapshots.keep_with_room

-- After any operations the image is that of the plain book; "keeping writes sixteen" (C-15) is in the image.
pub keep_writes_the_book : (os : List Operation) (m m' : State) (lent : List ℕ) (n k : ℕ) (b : List ℕ) → LeftBy os m → KeptAs m lent n k b m' → KeptRow (book_image (book os)) lent (kept n k b)
keep_writes_the_book os m m' lent n k b l h = snapshots.keep_of_machine m m' lent n k b _ (left-keeps os m l).represents h

-- "Turned away: 12, an image that isn't whole records, holds a line that a fresh monitor .. would refuse, holds records in another order or of another form .., or whose `M`
-- records don't name each rule once in order with marks its past has": of any monitor at all, the number is 12 exactly when the image is not accepted, and 0 exactly when it is.
-- C-15, "any `M` record with eight is still read, its higher marks clear", is in `Accepted`.
pub restore_refused_by_image : (m m' : State) (image : List ℕ) (n : ℕ) → RestoredBy m image n m' → (n ≡ 12) ↔ ((t : PositionMachine) → Accepted image t → ⊥)
restore_refused_by_image = snapshots.twelve_exactly

pub restore_taken_by_image : (m m' : State) (image : List ℕ) (n : ℕ) → RestoredBy m image n m' → (n ≡ 0) ↔ ((t : PositionMachine) × Accepted image t)
restore_taken_by_image = snapshots.zero_exactly

-- "monitor unchanged"
pub restore_refusal_changes_nothing : (m m' : State) (image : List ℕ) (n : ℕ) → RestoredBy m image n m' → ((t : PositionMachine) → Accepted image t → ⊥) → (n ≡ 12) × (m' ≡ m)
restore_refusal_changes_nothing = snapshots.restore_turns_away

-- "Returning to an image replaces the monitor.": whatever monitor it was, the one handed back represents the machine that the image says.
pub restore_replaces : (m m' : State) (image : List ℕ) (n : ℕ) → RestoredBy m image n m' → (t : PositionMachine) → Accepted image t → (n ≡ 0) × Represents m' t
restore_replaces = snapshots.restore-accepts

-- C-13. "An image buffer of another size, or a used number above its records, is 13 and is looked at first; then come 12 and 11.": of a host that holds any image buffer and any
-- used number of 32 bits, what comes of a call is what the first of these rows says that applies, and nothing else.
pub run_by_row : (h h' : HostImage) (t : LentBatch) (a : Answer) → h.used < shift → HostCalls h t a h' → (x : HostImage × Answer) → (◌≡◌ {A = HostImage × Answer} (h', a) x) ↔ RoundRow h t x
run_by_row h h' t a small c x =
    let e = call_is_round h t small a h' c in
    let k = rows.round_exactly h t x in
    (λ q. k.0 (sym e ∙ q), λ r. e ∙ k.1 r)

-- So the number is n, a refusal's, exactly when C-13's row of n refuses the call, every row before it being passed;
pub run_refused_by_row : (h h' : HostImage) (t : LentBatch) (a : Answer) → h.used < shift → HostCalls h t a h'
    → (n : ℕ) → 0 < n → (a.number ≡ n) ↔ RoundRow h t (round_refused n h t)
run_refused_by_row h h' t a small c n pos =
    subst (λ (x : HostImage × Answer). (x.1.number ≡ n) ↔ RoundRow h t (round_refused n h t)) (sym (call_is_round h t small a h' c)) (rows.refused_exactly h t n pos)

-- and 0 exactly when all rows are passed: keeping is never refused.
pub run_taken_by_row : (h h' : HostImage) (t : LentBatch) (a : Answer) → h.used < shift → HostCalls h t a h' → (a.number ≡ 0) ↔ ((m : PositionMachine) × RoundRow h t (round_taken m h t))
run_taken_by_row h h' t a small c =
    subst (λ (x : HostImage × Answer). (x.1.number ≡ 0) ↔ ((m : PositionMachine) × RoundRow h t (round_taken m h t))) (sym (call_is_round h t small a h' c)) (rows.taken_exactly h t)

-- "Each of these three leaves all three buffers as lent and hands back the used number as it was passed.": what the host holds is the same, and so is the reply buffer. (The
-- records are lent to be read only.)
pub run_refusal_changes_nothing : (h h' : HostImage) (t : LentBatch) (a : Answer) → h.used < shift → HostCalls h t a h' → (a.number ≡ 0 → ⊥) → (h' ≡ h) × (a.buffer ≡ t.replies)
run_refusal_changes_nothing h h' t a small c z =
    let e = call_is_round h t small a h' c in
    let k = rows.round_steady h t (λ q. z (ap (λ (x : HostImage × Answer). x.1.number) e ∙ q)) in
    (ap (λ (x : HostImage × Answer). x.0) (e ∙ k), ap (λ (x : HostImage × Answer). x.1.buffer) (e ∙ k))

-- The book's image always has room: 63 roles after top and two records for each of 32 rules.
pub book_image_has_room : (os : List Operation) → length (book_image (book os)) ≤ room_records * record_size
book_image_has_room os = image_fits (machine_of (book os)) (operations_proper os).now.lasting

-- A run exists for every list of operations: there are buffers that hold just these, and whatever `stand_operations` leaves of them (it is proved for any buffers, with
-- no `requires`, so it returns) shows a run of the operations on a fresh monitor, with the book's results.
pub every_list_handed_over : (os : List Operation) → HandedOver os
every_list_handed_over = handed_over

pub every_list_runs : (os : List Operation) (h : HandedOver os) (left told counted : List ℕ) (r : ℕ)
    → OperationsRun h.kinds h.records h.lengths h.sizes h.replies left h.numbers told h.counts counted r → (r ≡ 0) × Ran os (answers book_operate fresh_session os)
every_list_runs os h left told counted r s =
    let t = s.taken h.fit in (t.0, subst (λ (l : List Operation). Ran l (answers book_operate fresh_session l)) h.operations t.1.ran)

-- And for every list of batches that a host hands over, whatever it holds.
pub every_host_runs : (h : HostImage) (ts : List LentBatch) → h.used < shift → (xs : List Answer) × (h' : HostImage) × HostSession h ts xs h'
every_host_runs h ts small = (answers round_step h ts, left round_step h ts, calls-made ts h small)

-- DEMAND 2. "A line is taken exactly when the rule language, the name checks and the limits allow it, and it has a single reading. A past matches a list of acts exactly
-- when Appendix A .. says so. A chain is worked by that paper's steps, last declared first, and ends committed, held, unfit, or too long only when a 65th response would be
-- due."

-- After any operations, the number is 0 exactly when the rule language, the names held and the places free allow the line or the event.
pub taken_when_allowed : (os : List Operation) (m m' : State) (c : Call) (a : Answer) → LeftBy os m → HandledAs m c a m' → (a.number ≡ 0) ↔ Allowed (book os).roles (book_duties (book os)) c
taken_when_allowed os m m' c a l h = code.code_taken (book os) m m' c a (left-keeps os m l) h

-- "A monitor that said 8 with a place free breaks demand 2": the number is 8 exactly when no place is free for a line that passes every other row.
pub full_when_full : (os : List Operation) (m m' : State) (c : Call) (a : Answer) → LeftBy os m → HandledAs m c a m' → (a.number ≡ 8) ↔ Full (book os).roles (book_duties (book os)) c
full_when_full os m m' c a l h = code.code_eight (book os) m m' c a (left-keeps os m l) h

-- C-15. "A line of 126 bytes can't hold 64 patterns": 55 at most, whatever the text says besides, and a line with 55 there is.
pub patterns_in_a_line : (s n : List ℕ) (p : Past) (t : Pattern) (x : Response) → length s ≤ 126 → Says s (rule n p t x) → size_past p ≤ 55
patterns_in_a_line = past_room

pub as_many_there_are : (s : List ℕ) × (n : List ℕ) × (p : Past) × (t : Pattern) × (x : Response) × (length s ≤ 126) × Says s (rule n p t x) × (size_past p ≡ 55)
as_many_there_are = longest_there_is

-- "so refusal 7 can no longer be met, and the team shows this": after any operations no call's number is 7.
pub seven_never : (os : List Operation) (m m' : State) (c : Call) (a : Answer) → LeftBy os m → HandledAs m c a m' → a.number ≡ 7 → ⊥
seven_never os m m' c a l h = code.code_seven (book os) m m' c a (left-keeps os m l) h

-- "Whole-session agreement now covers every past a line can hold.": every such past is taken, where the line's names and a free place allow it, and so
-- `whole_session_is_book` speaks of it.
pub every_past_taken : (os : List Operation) (m m' : State) (c : Call) (a : Answer) → LeftBy os m → HandledAs m c a m'
    → (n : List ℕ) (p : Past) (t : Pattern) (x : Response) → Lends c → SaysLine c.bytes (rule n p t x) → Free (book os).roles (duty_names (book_duties (book os))) n
    → all_held same (book os).roles (rule_names p t x) ≡ true → length (book_duties (book os)) < 32 → a.number ≡ 0
every_past_taken os m m' c a l h = code.code_every_past (book os) m m' c a (left-keeps os m l) h

-- A text has a single reading, over role lines, rule lines and events together.
pub one_reading : (s : List ℕ) (l k : Line) → Says s l → Says s k → l ≡ k
one_reading = single_reading

-- After any operations, rule by rule, the state's own array holds exactly document 01's marks of the events since the rule's declaration, and by it the past matches exactly
-- when Appendix A says so of those events; of a rule that an image from elsewhere brought, the marks that it gave, followed in C-12's words.
pub marks_of_the_state : (os : List Operation) (m : State) → LeftBy os m → MarksIn m (book os).roles (book os).history m.sheet.rule_count (book os).rules
marks_of_the_state os m l = code.state-marks (book os) m (left-keeps os m l)

-- An accepted event is worked by the paper's steps to an end: committed, held, unfit, or too long when 64 responses are worked and another is due; and the answer is
-- the reply of that end.
pub event_is_worked : (os : List Operation) (m m' : State) (c : Call) (a : Answer) → LeftBy os m → HandledAs m c a m'
    → (e : Event) → Lends c → SaysEvent c.bytes e → all_held same (book os).roles e ≡ true
    → (o : Outcome) × WorkEnds (chain (order_of same (book os).roles) (book_duties (book os))) e o × (a ≡ record { number = 0; buffer = outcome_reply o })
event_is_worked os m m' c a l h = code.code_worked (book os) m m' c a (left-keeps os m l) h

-- and with the reply of no other end
pub event_no_other : (os : List Operation) (m m' : State) (c : Call) (a : Answer) → LeftBy os m → HandledAs m c a m'
    → (e : Event) (o : Outcome) → Lends c → SaysEvent c.bytes e → all_held same (book os).roles e ≡ true
    → WorkEnds (chain (order_of same (book os).roles) (book_duties (book os))) e o → a ≡ record { number = 0; buffer = outcome_reply o }
event_no_other os m m' c a l h = code.code_event (book os) m m' c a (left-keeps os m l) h

-- DEMAND 3. "For every list of calls (records of any bytes and length, refused ones too, reply buffers of any size) from a fresh monitor: each call's number and reply
-- buffer, byte for byte, are those of the plain book that keeps the whole list of committed acts and matches afresh. Said once, of the list of calls as a whole."

-- Said once, of the list of operations as a whole: every operation's number, count and buffers are the plain book's, which runs a batch as its records one by one and
-- remembers which images it has written, each with the book of that moment.
pub whole_session_is_book : (m m' : State) (os : List Operation) (rs : List Result) → Begun m → Operated m os rs m' → rs ≡ answers book_operate fresh_session os
whole_session_is_book = whole.operations_are_book

-- the case of single calls only
pub single_calls_are_book : (m m' : State) (cs : List Call) (xs : List Answer) → Begun m → Session m cs xs m' → xs ≡ answers book_step fresh_book cs
single_calls_are_book = whole.session_is_book

-- one operation more: what the theorem says of the last of a list
pub operation_is_book : (os : List Operation) (m m' : State) (o : Operation) (r : Result) → LeftBy os m → OperatedAs m o r m' → r ≡ (book_operate (session os) o).1
operation_is_book = whole.operation_is_book

-- and where it is a single call
pub call_is_book : (os : List Operation) (m m' : State) (c : Call) (a : Answer) → LeftBy os m → HandledAs m c a m' → a ≡ (book_step (book os) c).1
call_is_book os m m' c a l h = code.call_is_book (book os) m m' c a (left-keeps os m l) h

-- C-11. "Replies and monitor must be those of n single calls in the same order.": of any monitor at all, a batch of n records is a run of n single calls of `handle`, each
-- on its own 50 bytes as lent; the reply buffer is theirs, one after the other, and the monitor is the one that they leave.
pub batch_is_single_calls : (m m' : State) (s b : List ℕ) (a : Answer) → BatchedAs m s b a m' → (n : ℕ) → BatchOf n s b
    → (xs : List Answer) × Session m (calls_in n s b) xs m' × (a ≡ record { number = 0; buffer = buffers xs })
batch_is_single_calls = batches.batch_is_calls

-- "Each reply is written into its own 50 bytes of the lent reply buffer.": after any operations, reply k of a batch stands in bytes 50 k to 50 k + 49
pub reply_in_its_place : (os : List Operation) (n : ℕ) (s b : List ℕ) → BatchOf n s b → (u : List Answer) (x : Answer) (v : List Answer) → answers book_step (book os) (calls_in n s b) ≡ u ++ (x ∷ v)
    → take reply_size (drop (length u * reply_size) (buffers (answers book_step (book os) (calls_in n s b)))) ≡ x.buffer
reply_in_its_place os n s b h u x v e = own_place n s b (book os) h.replies u x v e

-- C-12. What keeping wrote on a monitor that any operations left is accepted by any monitor, and gives one that represents the same machine, the book's: so it goes on as
-- that book does, in this session or in another.
pub kept_image_goes_back : (os : List Operation) (m m' : State) (lent : List ℕ) (n k : ℕ) (b : List ℕ) → LeftBy os m → KeptAs m lent n k b m' → n ≡ 0
    → (u u' : State) (j : ℕ) → RestoredBy u (take (k * record_size) b) j u' → (j ≡ 0) × KeepsBook (book os) u'
kept_image_goes_back os m m' lent n k b l h z u u' j r =
    let q = left-keeps os m l in
    let t = snapshots.round_trip m m' lent n k b (machine_of (book os)) q.represents (operations_proper os).now.lasting h z u u' j r in
    (t.0, record { sound = q.sound; represents = t.1 })

-- The same of the book, over every list of later operations, with its history: after any operations, restoring the image of the book of any session goes on as that session.
pub restored_session_goes_on : (os ps qs : List Operation) → answers book_operate (session os) (restore (book_image (book ps)) ∷ qs) ≡ replaced 0 ∷ answers book_operate (session ps) qs
restored_session_goes_on os ps qs = restore_goes_on (session os) (session ps) (operations_proper os) (operations_proper ps) qs

-- An image decides the future: two sessions whose books have equal images answer every later list of operations alike. So it does not matter which moment is meant where the
-- same bytes were kept twice.
pub image_decides : (os ps : List Operation) → book_image (book os) ≡ book_image (book ps) → (qs : List Operation) → answers book_operate (session os) qs ≡ answers book_operate (session ps) qs
image_decides os ps = image_determines (session os) (session ps) (operations_proper os) (operations_proper ps)

-- and whichever way C-12 is read where it leaves that open, the results are these
pub readings_alike : (os : List Operation) (rs : List Result) (s : SessionBook) → Run Does fresh_session os rs s → rs ≡ answers book_operate fresh_session os
readings_alike = any_reading

-- C-13, demand 3 as a host sees it that holds nothing but the image, in a session of any length: for every list of batches handed over one by one, beginning with used 0 and any
-- bytes in an image buffer of 127 records, each call with the image and the used number that the one before left, every call's number and reply buffer are those of the plain
-- book that is fed with the batches: a batch taken is its records one by one, a batch refused by 11 changes nothing.
pub host_is_book : (bytes : List ℕ) (h' : HostImage) (ts : List LentBatch) (xs : List Answer) → length bytes ≡ room_records * record_size
    → HostSession (record { buffer = bytes; used = 0 }) ts xs h' → xs ≡ answers feed fresh_book ts
host_is_book bytes h' ts xs n run = calls_are_book (record { buffer = bytes; used = 0 }) h' fresh_book ts xs (fresh-says bytes n) run

-- That is: the replies of all batches taken, one after the other, are those of single calls with all their records in a row; and the book left is the one that these calls leave.
pub host_replies_in_a_row : (bytes : List ℕ) (h' : HostImage) (ts : List LentBatch) (xs : List Answer) → length bytes ≡ room_records * record_size
    → HostSession (record { buffer = bytes; used = 0 }) ts xs h' → replies_taken xs ≡ buffers (answers book_step fresh_book (calls_in_row ts))
host_replies_in_a_row bytes h' ts xs n run = ap replies_taken (host_is_book bytes h' ts xs n run) ∙ replies_in_row ts fresh_book

pub batches_in_a_row : (b : Book) (ts : List LentBatch) → left feed b ts ≡ left book_step b (calls_in_row ts)
batches_in_a_row b ts = feeding_in_row ts b

-- "the image is rewritten for the monitor afterwards": what the host holds at the end is the image of that book
pub host_image_is_book : (bytes : List ℕ) (h' : HostImage) (ts : List LentBatch) (xs : List Answer) → length bytes ≡ room_records * record_size
    → HostSession (record { buffer = bytes; used = 0 }) ts xs h' → used_records h' ≡ book_image (left book_step fresh_book (calls_in_row ts))
host_image_is_book bytes h' ts xs n run =
    let h : HostImage = record { buffer = bytes; used = 0 } in
    ap used_records (calls_leave h h' ts xs (omega arith) run) ∙ rounds_write ts h fresh_book (fresh-says bytes n) refl ∙ ap book_image (feeding_in_row ts fresh_book)

-- The same from any image that the host may hold: of the book of any session, it goes on as that book, with its list;
pub host_goes_on : (os : List Operation) (h h' : HostImage) (ts : List LentBatch) (xs : List Answer) → Room h → used_records h ≡ book_image (book os)
    → HostSession h ts xs h' → xs ≡ answers feed (book os) ts
host_goes_on os h h' ts xs r e run = calls_are_book h h' (book os) ts xs (image_says h (book os) (operations_proper os).now r e) run

-- and any other that is accepted, as the book that follows the marks it gives.
pub host_follows_image : (h h' : HostImage) (m : PositionMachine) (ts : List LentBatch) (xs : List Answer) → Room h → Accepted (used_records h) m
    → HostSession h ts xs h' → xs ≡ answers feed (book_from m) ts
host_follows_image h h' m ts xs r k run = calls_are_book h h' (book_from m) ts xs (given-says h m r ((accepted_exactly (used_records h) m).1 k)) run

-- "The outcome is that of returning to the image, running the tray and keeping.": of one call, those three operations in any session, by the book that remembers what it kept
pub run_is_three_operations : (os : List Operation) (h h' : HostImage) (t : LentBatch) (a : Answer) → Room h → HostCalls h t a h'
    → OutcomeOf h t (answers book_operate (session os) (round_operations h t)) (h', a)
run_is_three_operations os h h' t a r c =
    subst (OutcomeOf h t (answers book_operate (session os) (round_operations h t))) (sym (call_is_round h t (omega (arith, r.within)) a h' c))
    (rows.round_operated h t (session os) (operations_proper os) r)

-- Its second part: "Take any act in the book's list and any pattern whose roles were all held when that act was committed: the act meets it with the roles held then
-- exactly when it meets it with those held after any later call while it stands in the list." The calls are some of those that the operations made: where an image was
-- restored, "later acts are forgotten".
pub list_stays_true : (os : List Operation) (u : List Event) (e : Event) (v : List Event) → (book os).history ≡ u ++ (e ∷ v) → Stands (calls_made os) (book os) u e
list_stays_true = events_stand

-- the book that operations leave is what some of their calls leave, in order, on a fresh book or on that of an image from elsewhere
pub operations_are_some_calls : (os : List Operation) → Story (calls_made os) (book os)
operations_are_some_calls = book_story

-- and where nothing was restored, what all of them leave on a fresh book
pub operations_are_calls : (os : List Operation) → All Unrestored os → book os ≡ left book_step fresh_book (calls_made os)
operations_are_calls os = operations_as_calls os fresh_session

-- THE JUDGE. "The judge checks 9, then 10, then its records in turn by 3, 4 and 6; the first refusal found is its answer. It otherwise says yes or no": after any
-- operations, by the roles and the rules of the book left, whatever the rules have seen.
pub judged_by_row : (os : List Operation) (m : State) (i : ℕ) (s : List ℕ) (r v : Verdict) → LeftBy os m → Judged (lent_of m.sheet) i s r
    → (r ≡ v) ↔ VerdictRow (book os).roles (book_rules (book os)) i s v
judged_by_row os m i s r v l j = book_judged m (book os) i s r v (left-keeps os m l).represents j
