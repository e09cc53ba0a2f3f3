-- A session: a list of operations, each on the state that the one before left. Document 01, "The full list": "let each call have the monitor, and each step
-- the book, that the one before left". O is what is done and R what is handed back: single calls and their answers, or the operations of Operations.antt and
-- their results.
-- Assumes nothing.
use Rattle.std.specs.Prelude.{List, [], ◌∷◌}

-- what a machine hands back, in turn
abbrev pub answers : {S O R : Type 0} → (S → O → S × R) → S → List O → List R
answers step s [] = []
answers step s (o ∷ os) = (step s o).1 ∷ answers step (step s o).0 os

-- the state that is left
abbrev pub left : {S O R : Type 0} → (S → O → S × R) → S → List O → S
left step s [] = s
left step s (o ∷ os) = left step (step s o).0 os

-- A run of a monitor that is known by its contracts alone, from the monitor m to the one that is left: `Did m o r m'` is what the function for o ensures,
-- called at m, of the result r and the monitor m' handed back.
pub data Run {M O R : Type 0} (Did : M → O → R → M → Type 0) : M → List O → List R → M → Type 0 where
  run_end : {m : M} → Run Did m [] [] m
  run_step : {m m' m'' : M} {o : O} {r : R} {os : List O} {rs : List R} → Did m o r m' → Run Did m' os rs m'' → Run Did m (o ∷ os) (r ∷ rs) m''
