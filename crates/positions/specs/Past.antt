-- The pasts of rules, and which lists of events match a past: document 01, "When a past matches" (Appendix A of "Temporal Aspects as Security
-- Automata", over finite lists). An event is document 01's act. P is the type of patterns, A the type of events.
-- Assumes nothing.
use Rattle.std.specs.Prelude.{◌≡◌, Bool, true, List, [], ◌∷◌, ◌++◌}

-- A past: a regular pattern over the patterns of single events.
pub data Past (P : Type 0) : Type 0 where
  pat : P → Past P  -- a pattern
  empty : Past P  -- `()`, the empty list
  seq : Past P → Past P → Past P  -- factors side by side
  alt : Past P → Past P → Past P  -- either
  star : Past P → Past P  -- zero or more times

-- `Sat meets l φ`: the list l of events, oldest first, matches the past φ. `meets a p` says whether the event a meets the pattern p.
pub data Sat {P A : Type 0} (meets : A → P → Bool) : List A → Past P → Type 0 where
  -- "A pattern matches the lists of one act that meets it"
  sat_pat : {a : A} {p : P} → meets a p ≡ true → Sat meets (a ∷ []) (pat p)
  -- "`()` matches the empty list."
  sat_empty : Sat meets [] empty
  -- "Factors side by side match a list that splits into one part for each, in order."
  sat_seq : {σ ρ : List A} {φ ψ : Past P} → Sat meets σ φ → Sat meets ρ ψ → Sat meets (σ ++ ρ) (seq φ ψ)
  -- "Either matches what one side matches."
  sat_left : {l : List A} {φ ψ : Past P} → Sat meets l φ → Sat meets l (alt φ ψ)
  sat_right : {l : List A} {φ ψ : Past P} → Sat meets l ψ → Sat meets l (alt φ ψ)
  -- "A star matches the empty list, or a list its inside matches followed by one the star matches."
  sat_stop : {φ : Past P} → Sat meets [] (star φ)
  sat_more : {σ ρ : List A} {φ : Past P} → Sat meets σ φ → Sat meets ρ (star φ) → Sat meets (σ ++ ρ) (star φ)
