-- What is said of the book, said of the code: a monitor that keeps a book answers a call as the book does, so each exactness theorem of the book is one of
-- `handle`; and the state's own array holds the marks. A fresh monitor keeps the fresh book, and so on after any operations: that is said where all
-- operations are known (stand, proofs/WholeSession.antt).
-- Assumes nothing.
use Rattle.std.proofs.Common.{◌≡◌, refl, sym, subst, ◌∙◌, true, ◌↔◌, List, [], ◌∷◌, ℕ, zero, suc, ◌≤◌, ◌<◌, arith, length, drop, get_or}
use Rattle.common.specs.Limits.{max_rules}
use Rattle.lexer.specs.Words.{same}
use Rattle.grammar.specs.AsRead.{Past, Pattern, Response, rule}
use Rattle.grammar.specs.Names.{rule_names}
use Rattle.patterns.specs.Roles.{all_held}
use Rattle.patterns.specs.Meets.{order_of}
use Rattle.positions.specs.Numbers.{size}
use Rattle.follow.specs.Meaning.{past_meaning}
use Rattle.follow.specs.declared.state.State.{State}
use Rattle.follow.proofs.SizeLaws.{size_meaning}
use Rattle.intake.specs.Rows.{SaysLine, SaysEvent, Free}
use Rattle.intake.specs.Represents.{Represents, Rules, rules-none, rules-more, PositionRuleIs}
use Rattle.intake.proofs.RuleSizes.{rule-small}
use Rattle.intake.proofs.MatchLaws.{ends_same}
use Rattle.chain.specs.Work.{chain, work_event}
use Rattle.book.specs.Names.{Name, Event, Roles, Outcome}
use Rattle.book.specs.Decide.{Call, Answer, refused, duty_names, outcome_reply}
use Rattle.book.specs.Book.{Book, Entry, book_duties, book_step}
use Rattle.book.specs.Rows.{Lends, CallRow, Allowed, Full}
use Rattle.book.specs.Working.{WorkEnds}
use Rattle.book.specs.MachineSteps.{PositionRule, machine_of}
use Rattle.book.specs.Marks.{MarksOf, Marked, marked_none, marked_more}
use Rattle.book.proofs.Agree.{Sound, answer-same}
use Rattle.book.proofs.Exactly.{number_exactly, taken_exactly, eight_exactly, seven_never, every_past_taken, event-answered}
use Rattle.book.proofs.Working.{work_exactly}
use Rattle.book.proofs.GivenMarks.{marks_match}
use Rattle.book.proofs.Marks.{book_marked}
use Rattle.monitor.specs.Marks.{RuleMarked, MarksIn, marks-none, marks-more}
use Rattle.monitor.specs.Sessions.{HandledAs}

-- the monitor m keeps the book b: it represents b's machine, and b is one that operations have left
pub record KeepsBook (b : Book) (m : State) : Type 0 where
  pub sound : Sound b
  pub represents : Represents m (machine_of b)

-- ONE MORE CALL

module _ (b : Book) (m m' : State) (c : Call) (a : Answer) (k : KeepsBook b m) (h : HandledAs m c a m') where
  -- Its number and its buffer are the book's.
  pub call_is_book : a ≡ (book_step b c).1
  call_is_book = sym (h.right (machine_of b) k.represents).answered ∙ answer-same b k.sound c

  -- what the book's answer says, the call's says
  of_book : (P : Answer → Type 0) → P (book_step b c).1 → P a
  of_book P p = subst P (sym call_is_book) p

  -- Its number is n exactly when row n refuses it.
  pub code_number : (n : ℕ) → 0 < n → (a.number ≡ n) ↔ CallRow b.roles (book_duties b) c (refused n)
  code_number n z = of_book (λ x. (x.number ≡ n) ↔ CallRow b.roles (book_duties b) c (refused n)) (number_exactly b c n z)

  -- Its number is 0 exactly when the grammar, the names and the limits allow it.
  pub code_taken : (a.number ≡ 0) ↔ Allowed b.roles (book_duties b) c
  code_taken = of_book (λ x. (x.number ≡ 0) ↔ Allowed b.roles (book_duties b) c) (taken_exactly b c)

  -- Its number is 8 exactly when no place is free.
  pub code_eight : (a.number ≡ 8) ↔ Full b.roles (book_duties b) c
  code_eight = of_book (λ x. (x.number ≡ 8) ↔ Full b.roles (book_duties b) c) (eight_exactly b c)

  -- Its number is never 7.
  pub code_seven : a.number ≡ 7 → ⊥
  code_seven = of_book (λ x. x.number ≡ 7 → ⊥) (seven_never b c)

  -- A rule line is taken whatever its past, where its names and a free place allow it.
  pub code_every_past : (n : Name) (p : Past) (t : Pattern) (x : Response) → Lends c → SaysLine c.bytes (rule n p t x) → Free b.roles (duty_names (book_duties b)) n
      → all_held same b.roles (rule_names p t x) ≡ true → length (book_duties b) < max_rules → a.number ≡ 0
  code_every_past n p t x l s f h m = of_book (λ y. y.number ≡ 0) (every_past_taken b c n p t x l s f h m)

  -- An event is answered with the reply of the outcome that "Working an act" gives.
  pub code_event : (e : Event) (o : Outcome) → Lends c → SaysEvent c.bytes e → all_held same b.roles e ≡ true
      → WorkEnds (chain (order_of same b.roles) (book_duties b)) e o → a ≡ record { number = 0; buffer = outcome_reply o }
  code_event e o l s z w = call_is_book ∙ event-answered b c e o l s z w

  -- There is such an outcome: the work always ends, committed, held, unfit or too long.
  pub code_worked : (e : Event) → Lends c → SaysEvent c.bytes e → all_held same b.roles e ≡ true
      → (o : Outcome) × WorkEnds (chain (order_of same b.roles) (book_duties b)) e o × (a ≡ record { number = 0; buffer = outcome_reply o })
  code_worked e l s z =
      let ds = book_duties b in
      let order = order_of same b.roles in
      let w = (work_exactly order ds e (work_event order ds e)).0 refl in
      (work_event order ds e, w, code_event e (work_event order ds e) l s z w)

-- MARKS

rule_marked : (f : State) (rs : Roles) (h : List Event) (i : ℕ) (r : PositionRule) (x : Entry) → PositionRuleIs f i r → r.rule ≡ x.rule
    → MarksOf rs x.rule.past x.origin (drop x.start h) r.positions → RuleMarked f rs h i x
rule_marked f rs h i r x y e q =
    let past = x.rule.past in
    let small : size (past_meaning past) ≤ 63 = rw (size_meaning past, ← e) (let z = rule-small f.sheet i r.rule y.rule in omega arith) in
    let marks : MarksOf rs past x.origin (drop x.start h) (get_or f.positions i 0) = rw y.positions q in
    record { marks = marks; matched = rw (← ends_same f.sheet i r.rule y.rule, e) (marks_match rs past small x.origin (drop x.start h) (get_or f.positions i 0) marks) }

marks_in_lem : (f : State) (rs : Roles) (h : List Event) (n : ℕ) (fs : List PositionRule) (xs : List Entry) → Rules f n fs → Marked rs h fs xs → MarksIn f rs h n xs
marks_in_lem f rs h zero [] (x ∷ xs) _ x8 = elim x8 [ ]
marks_in_lem f rs h zero (r ∷ fs) xs x5 _ = elim x5 [ ]
marks_in_lem f rs h (suc n) [] xs x5 _ = elim x5 [ ]
marks_in_lem f rs h (suc n) (r ∷ fs) [] _ x9 = elim x9 [ ]
marks_in_lem f rs h zero [] [] rules-none marked_none = marks-none
marks_in_lem f rs h (suc n) (r ∷ fs) (x ∷ xs) (rules-more i is) (marked_more e q m) = marks-more (rule_marked f rs h n r x i e q) (marks_in_lem f rs h n fs xs is m)

-- "A rule's marks are exactly this set after every call.", of the state of a monitor that keeps a book.
pub state-marks : (b : Book) (m : State) → KeepsBook b m → MarksIn m b.roles b.history m.sheet.rule_count b.rules
state-marks b m k = marks_in_lem m _ _ m.sheet.rule_count _ _ k.represents.rules (book_marked b k.sound)
