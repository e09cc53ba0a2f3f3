-- The numbers that the code computes are the sets of the walk.
-- Assumes nothing.
use Rattle.std.proofs.Common.{◌≡◌, refl, sym, ap₂, ◌∙◌, Bool, true, false, ◌&&◌, ◌||◌, ℕ, suc, ◌+◌, ◌<◌, ◌≤◌, ◌^◌, min, arith, eqb, ltb, bit_or, ltb-true, ltb-false}
use Rattle.std.proofs.Math.Logic.Iff
use Rattle.positions.specs.Past.{Past, pat, empty, seq, alt, star}
use Rattle.positions.specs.Numbers.{size}
use Rattle.positions.specs.Walk.{SetSummary, on_pat, on_empty, on_seq, on_alt, on_star, walk, step, matches_now, ends}
use Rattle.common.specs.Sets.{has_at, bit_of, only_if, shares}
use Rattle.positions.specs.Summaries.{after, pat_summary, empty_summary, seq_summary, alt_summary, star_summary, summary, step_of, ends_of}
use Rattle.positions.specs.declared.summaries.Summary.{Summary}
use Rattle.common.proofs.Bools.{same_test}
use Rattle.std.proofs.Math.Bool.{and_comm}
use Rattle.common.proofs.SetLaws.{has_none, has_or, has_only_if, has_bit, has_one, shares_iff, bits_below}
use Rattle.positions.proofs.Following.{matches_at_ends, ends_any, step-within}

-- The numbers of s are the sets of u.
pub record Same (u : SetSummary) (s : Summary) : Type 0 where
  pub nullable-same : s.nullable ≡ u.nullable
  pub ending-same : s.ending ≡ u.ending
  pub first-same : (k : ℕ) → has_at s.first k ≡ u.first k
  pub moved_same : (k : ℕ) → has_at s.moved k ≡ u.moved k
  pub last-same : (k : ℕ) → has_at s.last k ≡ u.last k

-- a union of two numbers that are sets
pub or_same : (a b k : ℕ) {x y : Bool} → has_at a k ≡ x → has_at b k ≡ y → has_at (bit_or a b) k ≡ x || y
or_same a b k e f = has_or a b k ∙ ap₂ (λ x y. x || y) e f

-- a number that is a set, where a test holds
if_same : {c z : Bool} (b k : ℕ) {y : Bool} → c ≡ z → has_at b k ≡ y → has_at (only_if c b) k ≡ z && y
if_same {c} b k e f = has_only_if c b k ∙ ap₂ (λ x y. x && y) e f

same-pat : (m : ℕ) (met : Bool) (k : ℕ) → k < 64 → Same (on_pat k (has_at m k) met) (pat_summary m met k)
unfolding pat_summary
same-pat m met k h =
    record {
      nullable-same = refl;
      ending-same = refl;
      first-same = λ n. if_same {c = met} (bit_of k) n refl (has_bit k n h) ∙ and_comm met (eqb n k);
      moved_same = has_none;
      last-same = λ n. has_bit k n h;
    }

same-empty : (k : ℕ) → Same on_empty (empty_summary k)
same-empty k = record { nullable-same = refl; ending-same = refl; first-same = has_none; moved_same = has_none; last-same = has_none }

module _ {u v : SetSummary} {s r : Summary} (p : Same u s) (q : Same v r) where
  same-seq : Same (on_seq u v) (seq_summary s r)
  unfolding seq_summary
  same-seq =
      record {
        nullable-same = ap₂ (λ x y. x && y) p.nullable-same q.nullable-same;
        ending-same = ap₂ (λ x y. x || y) q.ending-same (ap₂ (λ x y. x && y) q.nullable-same p.ending-same);
        first-same = λ k. or_same s.first _ k (p.first-same k) (if_same r.first k p.nullable-same (q.first-same k));
        moved_same = λ k. or_same s.moved _ k (p.moved_same k) (or_same r.moved _ k (q.moved_same k) (if_same r.first k p.ending-same (q.first-same k)));
        last-same = λ k. or_same r.last _ k (q.last-same k) (if_same s.last k q.nullable-same (p.last-same k));
      }

  same-alt : Same (on_alt u v) (alt_summary s r)
  unfolding alt_summary
  same-alt =
      record {
        nullable-same = ap₂ (λ x y. x || y) p.nullable-same q.nullable-same;
        ending-same = ap₂ (λ x y. x || y) p.ending-same q.ending-same;
        first-same = λ k. or_same s.first _ k (p.first-same k) (q.first-same k);
        moved_same = λ k. or_same s.moved _ k (p.moved_same k) (q.moved_same k);
        last-same = λ k. or_same s.last _ k (p.last-same k) (q.last-same k);
      }

same-star : {u : SetSummary} {s : Summary} → Same u s → Same (on_star u) (star_summary s)
unfolding star_summary
same-star {s} p =
    record {
      nullable-same = refl;
      ending-same = p.ending-same;
      first-same = p.first-same;
      moved_same = λ k. or_same s.moved _ k (p.moved_same k) (if_same s.first k p.ending-same (p.first-same k));
      last-same = p.last-same;
    }

after_is : (k : ℕ) → k ≤ 65 → after k ≡ min 65 (k + 1)
after_is k h = go (ltb k 65) refl
  where
    go : (b : Bool) → ltb k 65 ≡ b → after k ≡ min 65 (k + 1)
    go true e = let l = ltb-true k 65 e in rw e (omega arith)
    go false e = let l = ltb-false k 65 e in rw e (omega arith)

module _ {P : Type 0} (m : ℕ) (t : P → Bool) where
  -- The next number counts the patterns, up to 65.
  pub next-is : (φ : Past P) (k : ℕ) → k ≤ 65 → (summary m t φ k).next ≡ min 65 (k + size φ)
  unfolding summary pat_summary seq_summary alt_summary star_summary
  next-is (pat p) k h = after_is k h
  next-is empty k h = omega arith
  next-is (seq φ ψ) k h =
      let e = next-is φ k h in
      let f = next-is ψ (summary m t φ k).next (omega arith) in
      omega arith
  next-is (alt φ ψ) k h =
      let e = next-is φ k h in
      let f = next-is ψ (summary m t φ k).next (omega arith) in
      omega arith
  next-is (star φ) k h = next-is φ k h

  -- Where all its patterns have a bit, the numbers of a past are its sets.
  pub summary-same : (φ : Past P) (i : ℕ) → i + size φ ≤ 63 → Same (walk t (has_at m) φ i) (summary m t φ (suc i))
  unfolding summary
  summary-same (pat p) i h = same-pat m (t p) (suc i) (omega arith)
  summary-same empty i h = same-empty (suc i)
  summary-same (seq φ ψ) i h =
      let e : (summary m t φ (suc i)).next ≡ suc (i + size φ) = omega (arith, next-is φ (suc i) (omega arith)) in
      same-seq (summary-same φ i (omega arith)) (rw (← e) at (summary-same ψ (i + size φ) (omega arith)))
  summary-same (alt φ ψ) i h =
      let e : (summary m t φ (suc i)).next ≡ suc (i + size φ) = omega (arith, next-is φ (suc i) (omega arith)) in
      same-alt (summary-same φ i (omega arith)) (rw (← e) at (summary-same ψ (i + size φ) (omega arith)))
  summary-same (star φ) i h = same-star (summary-same φ i h)

module _ {P : Type 0} (φ : Past P) where
  module _ (small : size φ ≤ 63) where
    -- The new number is the set that the walk sets.
    pub step_same : (m : ℕ) (t : P → Bool) (k : ℕ) → has_at (step_of m (summary m t φ 1)) k ≡ step φ (has_at m) t k
    unfolding step_of
    step_same m t k =
        let p = summary-same m t φ 0 (omega arith) in
        or_same (summary m t φ 1).moved _ k (p.moved_same k) (if_same {c = has_at m 0} (summary m t φ 1).first k refl (p.first-same k))

    -- The number of the ends is the set of the ends, whatever the event and the positions that the pass was for.
    pub ends_same : (m : ℕ) (t : P → Bool) (k : ℕ) → has_at (ends_of (summary m t φ 1)) k ≡ ends φ k
    unfolding ends_of
    ends_same m t k =
        let p = summary-same m t φ 0 (omega arith) in
        or_same (summary m t φ 1).last _ k (p.last-same k) (if_same 1 k p.nullable-same (has_one k)) ∙ ends_any φ t (has_at m) k

    -- The positions n share a number with the ends exactly where the past matches at n.
    pub match_same : (n m : ℕ) (t : P → Bool) → shares n (ends_of (summary m t φ 1)) ≡ matches_now φ (has_at n)
    match_same n m t =
        same_test _ _
        (Iff.trans (shares_iff n (ends_of (summary m t φ 1)))
        (Iff.trans
        (λ r. (r.0, r.1, sym (ends_same m t r.0) ∙ r.2), λ r. (r.0, r.1, ends_same m t r.0 ∙ r.2))
        (Iff.symm (matches_at_ends φ (has_at n)))))

    -- After an event a position held is one of 1 to the past's size.
    pub step_number_within : (m : ℕ) (t : P → Bool) (k : ℕ) → has_at (step_of m (summary m t φ 1)) k ≡ true → (0 < k) × (k ≤ size φ)
    step_number_within m t k e = let w = step-within φ (has_at m) t k (sym (step_same m t k) ∙ e) in (omega arith, omega arith)

    -- So the new number has no position above the past's size, and is even.
    pub step_number_below : (m : ℕ) (t : P → Bool) → step_of m (summary m t φ 1) < 2 ^ suc (size φ)
    step_number_below m t = bits_below (step_of m (summary m t φ 1)) (suc (size φ)) (λ k e. let w = step_number_within m t k e in omega arith)
