-- The one pass over a past that an event makes, with sets of positions: from what is found of the parts to what is found of the whole.
-- proofs/Following.antt says that it sets exactly the positions of C-12, and proofs/History.antt those of document 01.
-- Assumes nothing.
use Rattle.std.specs.Prelude.{Bool, true, false, ◌&&◌, ◌||◌, List, [], ◌∷◌, ℕ, suc, ◌+◌, eqb}
use Rattle.positions.specs.Past.{Past, pat, empty, seq, alt, star}
use Rattle.positions.specs.Numbers.{size}
use Rattle.positions.specs.Positions.{Positions}

-- what the pass finds of a part of the past
pub record SetSummary : Type 0 where
  pub nullable : Bool  -- the part allows the empty list
  pub ending : Bool  -- a position held may end the part
  pub first : Positions  -- the numbers that may begin the part and whose pattern the event meets
  pub moved : Positions  -- the numbers that the event leads to from a position held in the part
  pub last : Positions  -- the numbers that may end the part

-- the pattern numbered k, where `held` says whether position k is held and `met` whether the event meets the pattern
abbrev pub on_pat : ℕ → Bool → Bool → SetSummary
on_pat k held met = record { nullable = false; ending = held; first = λ n. eqb n k && met; moved = λ n. false; last = λ n. eqb n k }

-- `()`
abbrev pub on_empty : SetSummary
on_empty = record { nullable = true; ending = false; first = λ n. false; moved = λ n. false; last = λ n. false }

-- side by side: where p may be empty, q may begin and its first patterns are first; where q may be empty, p's end is an end
abbrev pub on_seq : SetSummary → SetSummary → SetSummary
on_seq p q =
    record {
      nullable = p.nullable && q.nullable;
      ending = q.ending || q.nullable && p.ending;
      first = λ n. p.first n || p.nullable && q.first n;
      moved = λ n. p.moved n || (q.moved n || p.ending && q.first n);
      last = λ n. q.last n || q.nullable && p.last n;
    }

-- either
abbrev pub on_alt : SetSummary → SetSummary → SetSummary
on_alt p q =
    record {
      nullable = p.nullable || q.nullable;
      ending = p.ending || q.ending;
      first = λ n. p.first n || q.first n;
      moved = λ n. p.moved n || q.moved n;
      last = λ n. p.last n || q.last n;
    }

-- a star: after an end it may begin again
abbrev pub on_star : SetSummary → SetSummary
on_star p =
    record {
      nullable = true;
      ending = p.ending;
      first = p.first;
      moved = λ n. p.moved n || p.ending && p.first n;
      last = p.last;
    }

-- the pass for an event that meets the patterns of which t holds, at the positions m, over a past whose patterns are numbered from i + 1 on
abbrev pub walk : {P : Type 0} → (P → Bool) → Positions → Past P → ℕ → SetSummary
walk t m (pat p) i = on_pat (suc i) (m (suc i)) (t p)
walk t m empty i = on_empty
walk t m (seq φ ψ) i = on_seq (walk t m φ i) (walk t m ψ (i + size φ))
walk t m (alt φ ψ) i = on_alt (walk t m φ i) (walk t m ψ (i + size φ))
walk t m (star φ) i = on_star (walk t m φ i)

-- what the summary of the whole past says, where `start` says whether position 0 is held: the new positions
abbrev pub positions_by : Bool → SetSummary → Positions
positions_by start s k = s.moved k || start && s.first k

-- whether the past matches
abbrev pub matched_by : Bool → SetSummary → Bool
matched_by start s = s.ending || start && s.nullable

-- the numbers at which the past may end, 0 where it allows the empty list
abbrev pub ends_by : SetSummary → Positions
ends_by s k = s.last k || s.nullable && eqb k 0

-- the positions after one event more
abbrev pub step : {P : Type 0} → Past P → Positions → (P → Bool) → Positions
step φ m t = positions_by (m 0) (walk t m φ 0)

-- the positions after the events l more, oldest first
abbrev pub steps : {P A : Type 0} → (A → P → Bool) → Past P → Positions → List A → Positions
steps meets φ m [] = m
steps meets φ m (a ∷ l) = steps meets φ (step φ m (meets a)) l

-- The past matches at the positions m. That does not depend on an event, so any test will do: `matched-any` of proofs/Following.antt.
abbrev pub matches_now : {P : Type 0} → Past P → Positions → Bool
matches_now φ m = matched_by (m 0) (walk (λ p. false) m φ 0)

-- The positions at which the past may end. They depend neither on an event nor on the positions held: `ends_any` of proofs/Following.antt.
abbrev pub ends : {P : Type 0} → Past P → Positions
ends φ = ends_by (walk (λ p. false) (λ k. false) φ 0)
