-- A pattern put in order after a part, worked out at once: what each way through `then_pattern` shows.
-- Assumes nothing.
use Rattle.std.proofs.Common.{◌≡◌, refl, sym, ap, ◌∙◌, Bool, true, false, ◌||◌, cond, ℕ, ◌<◌, ◌^◌, bit_or, ltb, ltb-true, ltb-false, eqb-true, eq-eqb}
use Rattle.std.proofs.Math.Bool.{and-true, and-false, or-false}
use lib.Bits.{or_zero_r, or_self}
use Rattle.std.proofs.lemmas.Bool.{false≢true}
use Rattle.common.proofs.Bools.{same_test}
use Rattle.common.specs.Sets.{has_at, bit_of, only_if, shares}
use Rattle.positions.specs.Summaries.{after, pat_summary, seq_summary, star_summary, star_if}
use Rattle.positions.specs.declared.summaries.Summary.{Summary}
use Rattle.common.proofs.SetLaws.{has_none, has_above, has_bit, shares_iff}

-- whether k is held is whether the positions share a number with the set of k alone
pub shares_bit : (m k : ℕ) → m < 2 ^ 64 → shares m (bit_of k) ≡ has_at m k
shares_bit m k h = same_test _ _ (yes, back)
  where
    yes : shares m (bit_of k) ≡ true → has_at m k ≡ true
    yes e = go (ltb k 64) refl ((shares_iff m (bit_of k)).0 e)
      where
        go : (b : Bool) → ltb k 64 ≡ b → (j : ℕ) × (has_at m j ≡ true) × (has_at (bit_of k) j ≡ true) → has_at m k ≡ true
        go true d r = rw (← eqb-true r.0 k (sym (has_bit k r.0 (ltb-true k 64 d)) ∙ r.2)) r.1
        go false d r = absurd (false≢true (sym (has_none r.0) ∙ ap (λ (b : Bool). has_at (cond b (2 ^ k) 0) r.0) (sym d) ∙ r.2))

    back : has_at m k ≡ true → shares m (bit_of k) ≡ true
    back e = go (ltb k 64) refl
      where
        go : (b : Bool) → ltb k 64 ≡ b → shares m (bit_of k) ≡ true
        go true d = (shares_iff m (bit_of k)).1 (k, e, has_bit k k (ltb-true k 64 d) ∙ eq-eqb k k refl)
        go false d = absurd (false≢true (sym (has_above m 64 k h (ltb-false k 64 d)) ∙ e))

-- what is let in by one test or another
only_either : (a b : Bool) (x : ℕ) → only_if (a || b) x ≡ bit_or (only_if a x) (only_if b x)
only_either true true x = sym (or_self x)
only_either true false x = sym (or_zero_r x)
only_either false b x = refl

module _ (s : Summary) (m : ℕ) (met held : Bool) (e : held ≡ has_at m s.next) where
  pub starred_after : ◌≡◌ {A = Summary}
      (record {
        next = after s.next;
        nullable = s.nullable;
        ending = held || s.ending;
        first = bit_or s.first (only_if s.nullable (only_if met (bit_of s.next)));
        moved = bit_or s.moved (only_if (held || s.ending) (only_if met (bit_of s.next)));
        last = bit_or (bit_of s.next) s.last;
      })
      (seq_summary s (star_if true (pat_summary m met s.next)))
  unfolding seq_summary star_summary pat_summary
  starred_after =
      λ i. record {
        next = after s.next;
        nullable = sym (and-true s.nullable) i;
        ending = e i || s.ending;
        first = bit_or s.first (only_if s.nullable (only_if met (bit_of s.next)));
        moved = bit_or s.moved ((only_either held s.ending (only_if met (bit_of s.next)) ∙ ap (λ (b : Bool). bit_or (only_if b (only_if met (bit_of s.next))) (only_if s.ending (only_if met (bit_of s.next)))) e) i);
        last = bit_or (bit_of s.next) s.last;
      }

  pub plain_after : ◌≡◌ {A = Summary}
      (record {
        next = after s.next;
        nullable = false;
        ending = held;
        first = bit_or s.first (only_if s.nullable (only_if met (bit_of s.next)));
        moved = bit_or s.moved (only_if s.ending (only_if met (bit_of s.next)));
        last = bit_of s.next;
      })
      (seq_summary s (star_if false (pat_summary m met s.next)))
  unfolding seq_summary star_summary pat_summary
  plain_after =
      λ i. record {
        next = after s.next;
        nullable = sym (and-false s.nullable) i;
        ending = (e ∙ sym (or-false (has_at m s.next))) i;
        first = bit_or s.first (only_if s.nullable (only_if met (bit_of s.next)));
        moved = bit_or s.moved (only_if s.ending (only_if met (bit_of s.next)));
        last = sym (or_zero_r (bit_of s.next)) i;
      }
