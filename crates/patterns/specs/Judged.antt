-- What judging a pattern's code promises, by trees: where the code spells a pattern, the answer is whether the event meets it, and the end is where
-- its spelling ends. For any bytes the end does not lie before the start.
-- Assumes nothing.
use Rattle.std.specs.Prelude.{◌≡◌, Bool, true, false, not, cond, Option, Some, None, ◌&&◌, ◌||◌, List, ◌++◌, ℕ, ◌+◌, ◌-◌, ◌≤◌, ◌<◌, eqb, ltb, leb, length, get_or, drop}
use Rattle.grammar.specs.Trees.{Items, Condition, Term, Pattern}
use Rattle.code.specs.Trees.{code_items, code_condition, code_term, code_pattern}
use Rattle.patterns.specs.Table.{below_by}
use Rattle.patterns.specs.Meets.{Order, items_meet, term_meets, condition_meets, meets}
use Rattle.patterns.specs.declared.judge.Judged.{Judged}

-- how ids compare, by the sets of the roles above
abbrev pub order_by : List ℕ → Order ℕ
order_by above = record { is = λ r p. eqb r p; under = λ r p. below_by above r p }

-- role r is p or, where under is true, below it
abbrev pub is_of : List ℕ → Bool → ℕ → ℕ → Bool
is_of above true p r = below_by above r p
is_of above false p r = eqb r p

-- a role is the one that a byte of code names or, where under is true, below it
unfoldable pub names_role : List ℕ → Bool → ℕ → ℕ → Bool
names_role above under byte role = cond (ltb byte 128) false (is_of above under (byte - 128) role)

-- the event has a role at i, and that is the one that a byte of code names, or below it
unfoldable pub role_at : List ℕ → Bool → ℕ → List ℕ → ℕ → Bool
role_at above under byte event i = cond (leb (length event) i) false (names_role above under byte (get_or event i 0))

-- the place after an item, where the role at i of the event meets it: a name, or `+` with a name after it
unfoldable pub met_item : List ℕ → List ℕ → ℕ → List ℕ → ℕ → ℕ → Option ℕ
met_item above event i code first at =
    cond (eqb first 43)
    (cond (ltb (at + 1) (length code) && role_at above true (get_or code (at + 1) 0) event i) (Some (at + 2)) None)
    (cond (role_at above false first event i) (Some (at + 1)) None)

-- a term and the condition after its or; the term after a not
abbrev pub either_of : Bool → Judged → Judged
either_of ok r = record { end = r.end; ok = ok || r.ok }

abbrev pub not_of : Judged → Judged
not_of r = record { end = r.end; ok = not r.ok }

-- what stands in brackets, with the bracket after it; where the code ends before, nothing is met
abbrev pub bracketed_of : List ℕ → Judged → Judged
bracketed_of code r = cond (leb (length code) r.end) (record { end = r.end; ok = false }) (record { end = r.end + 1; ok = r.ok })

-- no or follows
unfoldable pub Ended : List ℕ → Type 0
Ended rest = get_or rest 0 0 ≡ 111 → ⊥

-- where items end
pub record ItemsEnd (code : List ℕ) (at r : ℕ) : Type 0 where
  pub onwards : at ≤ r
  pub right : (xs : Items ℕ) (rest : List ℕ) → drop at code ≡ code_items xs ++ rest → r ≡ at + length (code_items xs)

-- items, against the roles of the event from i on
pub record ItemsRead (above event : List ℕ) (i : ℕ) (code : List ℕ) (at : ℕ) (r : Judged) : Type 0 where
  pub onwards : at ≤ r.end
  pub right : (xs : Items ℕ) (rest : List ℕ) → drop at code ≡ code_items xs ++ rest
      → (r.ok ≡ items_meet (order_by above) (drop i event) xs) × (r.end ≡ at + length (code_items xs))

-- a term
pub record TermRead (above event code : List ℕ) (at : ℕ) (r : Judged) : Type 0 where
  pub onwards : at ≤ r.end
  pub right : (t : Term ℕ) (rest : List ℕ) → drop at code ≡ code_term t ++ rest
      → (r.ok ≡ term_meets (order_by above) event t) × (r.end ≡ at + length (code_term t))

-- a condition, where no or follows it
pub record ConditionRead (above event code : List ℕ) (at : ℕ) (r : Judged) : Type 0 where
  pub onwards : at ≤ r.end
  pub right : (c : Condition ℕ) (rest : List ℕ) → Ended rest → drop at code ≡ code_condition c ++ rest
      → (r.ok ≡ condition_meets (order_by above) event c) × (r.end ≡ at + length (code_condition c))

-- a pattern; where the code has a byte more, at least that one is read
pub record PatternRead (above event code : List ℕ) (at : ℕ) (r : Judged) : Type 0 where
  pub onwards : at ≤ r.end
  pub moves : at < length code → at < r.end
  pub right : (p : Pattern ℕ) (rest : List ℕ) → drop at code ≡ code_pattern p ++ rest
      → (r.ok ≡ meets (order_by above) event p) × (r.end ≡ at + length (code_pattern p))

-- a whole condition, or one term of it, or a pattern
pub record JudgeRead (above event code : List ℕ) (at : ℕ) (whole : Bool) (r : Judged) : Type 0 where
  pub onwards : at ≤ r.end
  pub one : whole ≡ false → TermRead above event code at r
  pub pattern : whole ≡ false → PatternRead above event code at r
  pub all : whole ≡ true → ConditionRead above event code at r
