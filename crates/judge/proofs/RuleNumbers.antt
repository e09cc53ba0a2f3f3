-- The rule of a number.
-- Assumes nothing.
use Rattle.std.proofs.Common.{◌≡◌, refl, sym, ap, ◌∙◌, Bool, true, false, cond, List, [], ◌∷◌, ℕ, ◌≤◌, ◌<◌, arith, eqb, length, eqb-true, eq-eqb, ne_eqb}
use Rattle.std.proofs.Math.Option.{Option, none, some}
use Rattle.std.proofs.lemmas.List.{length-map}
use Rattle.std.proofs.lemmas.Bool.{eqb-false}
use Rattle.intake.specs.Names.{Rule}
use Rattle.intake.specs.Machine.{PositionRule}
use Rattle.judge.specs.Judge.{rule_numbered}
use Rattle.judge.specs.Rows.{rules_of, Numbered, newest, older}

-- a number that is not the newest rule's
pub not-newest : (x : PositionRule) (l : List PositionRule) (i : ℕ) → (i ≡ length l → ⊥) → rule_numbered (x ∷ l) i ≡ rule_numbered l i
not-newest x l i h = ap (λ (b : Bool). cond b (some x.rule) (rule_numbered l i)) (ne_eqb i (length l) h)

pub is-newest : (x : PositionRule) (l : List PositionRule) (i : ℕ) → i ≡ length l → rule_numbered (x ∷ l) i ≡ some x.rule
is-newest x l i h = ap (λ (b : Bool). cond b (some x.rule) (rule_numbered l i)) (eq-eqb i (length l) h)

pub none_at : (l : List PositionRule) (i : ℕ) → length l ≤ i → rule_numbered l i ≡ none
none_at [] i h = refl
none_at (x ∷ l) i h = not-newest x l i (λ e. omega arith) ∙ none_at l i (omega arith)

-- a rule of a number is one of those declared
pub numbered_below : (l : List Rule) (i : ℕ) (r : Rule) → Numbered l i r → i < length l
numbered_below [] i r x' = elim x' [ ]
numbered_below (x ∷ l) i r (newest e) = omega arith
numbered_below (x ∷ l) i r (older h) = let k = numbered_below l i r h in omega arith

-- what stands at a number
abbrev pub Standing : List PositionRule → ℕ → Option Rule → Type 0
Standing l i none = length l ≤ i
Standing l i (some r) = Numbered (rules_of l) i r

pub standing : (l : List PositionRule) (i : ℕ) → Standing l i (rule_numbered l i)
standing [] i = omega arith
standing (x ∷ l) i = go (standing l i) (eqb i (length l)) refl
  where
    more : (o : Option Rule) → (i ≡ length l → ⊥) → Standing l i o → Standing (x ∷ l) i o
    more none n h = omega (arith, n)
    more (some r) n h = older h

    go : Standing l i (rule_numbered l i) → (b : Bool) → eqb i (length l) ≡ b → Standing (x ∷ l) i (cond b (some x.rule) (rule_numbered l i))
    go h true e = newest (eqb-true i (length l) e ∙ sym (length-map l (λ y. y.rule)))
    go h false e = more (rule_numbered l i) (eqb-false i (length l) e) h

pub rule-numbered : (l : List PositionRule) (i : ℕ) (r : Rule) → Numbered (rules_of l) i r → rule_numbered l i ≡ some r
rule-numbered [] i r x' = elim x' [ ]
rule-numbered (x ∷ l) i r (newest e) = is-newest x l i (e ∙ length-map l (λ y. y.rule))
rule-numbered (x ∷ l) i r (older h) =
    let k = numbered_below (rules_of l) i r h in
    let n = length-map l (λ (y : PositionRule). y.rule) in
    not-newest x l i (λ e. omega arith) ∙ rule-numbered l i r h
