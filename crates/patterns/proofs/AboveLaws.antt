-- The sets of the roles above: what is in the set of each role, what a role that joins keeps, and that it changes nothing for the roles before it.
-- Assumes nothing.
use Rattle.std.proofs.Common.{◌≡◌, sym, ap, ◌∙◌, Bool, ◌||◌, ◌⊎◌, inl, inr, ⊎_elim, List, ℕ, ◌+◌, ◌<◌, ne_of_lt, eq-or-lt_of_le, arith, eqb, length, get_or, set, get_or-set_same, get_or-set_other, eqb-true, eq-eqb}
use Rattle.std.proofs.Math.Bool.{or_comm}
use Rattle.std.specs.Int.Bits.{bit_or}
use Rattle.common.specs.Sets.{has_at, bit_of}
use Rattle.common.proofs.Bools.{same_test}
use Rattle.common.proofs.SetLaws.{has_one, has_or, has_bit}
use Rattle.patterns.specs.Table.{below_by, joined_set, Ordered, Gathered}

-- an id is the last one, or stands before it
pub split : (i n : ℕ) → i < n + 1 → (i < n) ⊎ (i ≡ n)
split i n h = ⊎_elim (λ e. inr e) (λ l. inl l) (eq-or-lt_of_le {n = i} {m = n} (omega arith))

turned : (a b : ℕ) → eqb a b ≡ eqb b a
turned a b = same_test (eqb a b) (eqb b a) (λ e. eq-eqb b a (sym (eqb-true a b e)), λ e. eq-eqb a b (sym (eqb-true b a e)))

-- above top is top alone
pub below_top : (above : List ℕ) (p : ℕ) → get_or above 0 0 ≡ 1 → below_by above 0 p ≡ eqb 0 p
unfolding below_by
below_top above p e = rw e (has_one p ∙ turned p 0)

-- above a role that joined under a parent is the role itself, and what is above its parent
pub below_joined : (above : List ℕ) (n parent p : ℕ) → n < 64 → get_or above n 0 ≡ joined_set above n parent → below_by above n p ≡ (eqb n p || below_by above parent p)
unfolding below_by
below_joined above n parent p h e =
    rw e (has_or (get_or above parent 0) (bit_of n) p ∙ ap (λ (b : Bool). has_at (get_or above parent 0) p || b) (has_bit n p h ∙ turned p n) ∙ or_comm (has_at (get_or above parent 0) p) (eqb n p))

-- a role that joins at n changes nothing for the roles before it
pub by-later : (above : List ℕ) (n x r p : ℕ) → r < n → below_by (set above n x) r p ≡ below_by above r p
unfolding below_by
by-later above n x r p h = ap (λ (m : ℕ). has_at m p) (get_or-set_other above n r x 0 (ne_of_lt h))

-- top alone
pub gathered_top : (ps above : List ℕ) → get_or above 0 0 ≡ 1 → Gathered 1 ps above
gathered_top ps above e = record { top = e; up = λ i h k. absurd (omega arith) }

-- one role more, under one that is held
module _ (n : ℕ) (ps above : List ℕ) (o : Ordered n ps) (g : Gathered n ps above) (some : 0 < n) (fits : n < length ps) (there : n < length above) (parent : ℕ) (h : parent < n) where
  abbrev after : List ℕ
  after = set above n (joined_set above n parent)

  kept : (i : ℕ) → i < n → get_or after i 0 ≡ get_or above i 0
  kept i l = get_or-set_other above n i (joined_set above n parent) 0 (ne_of_lt l)

  before : (i : ℕ) → 0 < i → i < n → get_or after i 0 ≡ joined_set after i (get_or (set ps n parent) i 0)
  before i k l =
      let p : get_or (set ps n parent) i 0 ≡ get_or ps i 0 = get_or-set_other ps n i parent 0 (ne_of_lt l) in
      let u : get_or ps i 0 < n = let v = o.up i k l in omega arith in
      kept i l ∙ g.up i k l ∙ sym (ap (λ (m : ℕ). joined_set after i m) p ∙ ap (λ (m : ℕ). bit_or m (bit_of i)) (kept (get_or ps i 0) u))

  last : get_or after n 0 ≡ joined_set after n (get_or (set ps n parent) n 0)
  last =
      let p : get_or (set ps n parent) n 0 ≡ parent = get_or-set_same ps n parent 0 fits in
      get_or-set_same above n (joined_set above n parent) 0 there ∙ sym (ap (λ (m : ℕ). joined_set after n m) p ∙ ap (λ (m : ℕ). bit_or m (bit_of n)) (kept parent h))

  pub gathered_joined : Gathered (n + 1) (set ps n parent) after
  gathered_joined =
      record {
        top = kept 0 some ∙ g.top;
        up = λ i k l. ⊎_elim (λ q. before i k q) (λ e. rw e last) (split i n l);
      }
