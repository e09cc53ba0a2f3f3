-- The pass of specs/Walk.antt with numbers for sets, as the code makes it. proofs/SummaryLaws.antt says that the numbers are those sets.
-- Assumes nothing.
use Rattle.std.specs.Prelude.{Bool, true, false, ◌&&◌, ◌||◌, cond, List, ℕ, ◌+◌, ltb}
use Rattle.std.specs.Int.Bits.{bit_or}
use Rattle.positions.specs.Past.{Past, pat, empty, seq, alt, star}
use Rattle.positions.specs.Positions.{After}
use Rattle.common.specs.Sets.{has_at, bit_of, only_if}
use Rattle.positions.specs.declared.summaries.Summary.{Summary}

-- The number after k. It stops at 65, so that a next number of at most 64 tells that all patterns have a bit, and 65 that some have none.
abbrev pub after : ℕ → ℕ
after k = cond (ltb k 65) (k + 1) k

-- the pattern numbered k, at the positions m; `met` says whether the event meets it
unfoldable pub pat_summary : ℕ → Bool → ℕ → Summary
pat_summary m met k =
    record {
      next = after k;
      nullable = false;
      ending = has_at m k;
      first = only_if met (bit_of k);
      moved = 0;
      last = bit_of k;
    }

-- `()`, before the pattern numbered k
abbrev pub empty_summary : ℕ → Summary
empty_summary k = record { next = k; nullable = true; ending = false; first = 0; moved = 0; last = 0 }

-- side by side
unfoldable pub seq_summary : Summary → Summary → Summary
seq_summary p q =
    record {
      next = q.next;
      nullable = p.nullable && q.nullable;
      ending = q.ending || q.nullable && p.ending;
      first = bit_or p.first (only_if p.nullable q.first);
      moved = bit_or p.moved (bit_or q.moved (only_if p.ending q.first));
      last = bit_or q.last (only_if q.nullable p.last);
    }

-- either
unfoldable pub alt_summary : Summary → Summary → Summary
alt_summary p q =
    record {
      next = q.next;
      nullable = p.nullable || q.nullable;
      ending = p.ending || q.ending;
      first = bit_or p.first q.first;
      moved = bit_or p.moved q.moved;
      last = bit_or p.last q.last;
    }

-- a star
unfoldable pub star_summary : Summary → Summary
star_summary p =
    record {
      next = p.next;
      nullable = true;
      ending = p.ending;
      first = p.first;
      moved = bit_or p.moved (only_if p.ending p.first);
      last = p.last;
    }

-- a star where b holds, else none
abbrev pub star_if : Bool → Summary → Summary
star_if b s = cond b (star_summary s) s

-- the pass for an event that meets the patterns of which t holds, at the positions m, over a past whose patterns are numbered from k on
unfoldable pub summary : {P : Type 0} → ℕ → (P → Bool) → Past P → ℕ → Summary
summary m t (pat p) k = pat_summary m (t p) k
summary m t empty k = empty_summary k
summary m t (seq φ ψ) k = seq_summary (summary m t φ k) (summary m t ψ (summary m t φ k).next)
summary m t (alt φ ψ) k = alt_summary (summary m t φ k) (summary m t ψ (summary m t φ k).next)
summary m t (star φ) k = star_summary (summary m t φ k)

-- the positions after the event, from those before it and the summary of the whole past: `step`
unfoldable pub step_of : ℕ → Summary → ℕ
step_of m s = bit_or s.moved (only_if (has_at m 0) s.first)

-- the positions at which the past may end, 0 where it allows the empty list: `ends`
unfoldable pub ends_of : Summary → ℕ
ends_of s = bit_or s.last (only_if s.nullable 1)

-- the number m is right for the past φ after the events l: its bits are document 01's marks ("bit k is mark k")
abbrev pub Right : {P A : Type 0} → (A → P → Bool) → Past P → List A → ℕ → Type 0
Right meets φ l m = After meets φ l (has_at m)
