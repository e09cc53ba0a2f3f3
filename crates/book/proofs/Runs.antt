-- What holds step by step holds over every list: two machines that answer alike, and a monitor known by its contracts.
-- Assumes nothing.
use Rattle.std.proofs.Common.{◌≡◌, refl, ap, ap₂, List, [], ◌∷◌, ◌++◌, suc, length}
use Rattle.book.specs.Session.{answers, left, Run, run_end, run_step}

-- TWO MACHINES

module _ {S T O R : Type 0} (f : S → O → S × R) (g : T → O → T × R) (Alike : S → T → Type 0)
    (each : (s : S) (t : T) → Alike s t → (o : O) → ((f s o).1 ≡ (g t o).1) × Alike (f s o).0 (g t o).0) where
  -- they hand back the same
  pub answers_alike : (os : List O) (s : S) (t : T) → Alike s t → answers f s os ≡ answers g t os
  answers_alike [] s t h = refl
  answers_alike (o ∷ os) s t h = ap₂ ◌∷◌ (each s t h o).0 (answers_alike os (f s o).0 (g t o).0 (each s t h o).1)

  -- and what they leave is alike
  pub left_alike : (os : List O) (s : S) (t : T) → Alike s t → Alike (left f s os) (left g t os)
  left_alike [] s t h = h
  left_alike (o ∷ os) s t h = left_alike os (f s o).0 (g t o).0 (each s t h o).1

-- A MONITOR KNOWN BY ITS CONTRACTS

module _ {M S O R : Type 0} (Did : M → O → R → M → Type 0) (step : S → O → S × R) (Represents : M → S → Type 0)
    (each : (m m' : M) (o : O) (r : R) (s : S) → Represents m s → Did m o r m' → (r ≡ (step s o).1) × Represents m' (step s o).0) where
  -- it hands back what the machine does
  pub run-answers : {m m' : M} {os : List O} {rs : List R} (s : S) → Represents m s → Run Did m os rs m' → rs ≡ answers step s os
  run-answers s h run_end = refl
  run-answers s h (run_step {m = m} {m' = m'} {o = o} {r = r} d run) = let e = each m m' o r s h d in ap₂ ◌∷◌ e.0 (run-answers (step s o).0 e.1 run)

  -- and represents what the machine leaves
  pub run-leaves : {m m' : M} {os : List O} {rs : List R} (s : S) → Represents m s → Run Did m os rs m' → Represents m' (left step s os)
  run-leaves s h run_end = h
  run-leaves s h (run_step {m = m} {m' = m'} {o = o} {r = r} d run) = run-leaves (step s o).0 (each m m' o r s h d).1 run

-- ONE MORE AT THE END

-- a run, and one operation after it
pub run-last : {M O R : Type 0} {Did : M → O → R → M → Type 0} {m m' m'' : M} {os : List O} {rs : List R} {o : O} {r : R}
    → Run Did m os rs m' → Did m' o r m'' → Run Did m (os ++ (o ∷ [])) (rs ++ (r ∷ [])) m''
run-last run_end d = run_step d run_end
run-last (run_step c run) d = run_step c (run-last run d)

-- A LIST AFTER A LIST

-- what is left
pub left-append : {S O R : Type 0} (step : S → O → S × R) (s : S) (os ps : List O) → left step s (os ++ ps) ≡ left step (left step s os) ps
left-append step s [] ps = refl
left-append step s (o ∷ os) ps = left-append step (step s o).0 os ps

-- and what is handed back
pub answers-append : {S O R : Type 0} (step : S → O → S × R) (s : S) (os ps : List O) → answers step s (os ++ ps) ≡ answers step s os ++ answers step (left step s os) ps
answers-append step s [] ps = refl
answers-append {R = R} step s (o ∷ os) ps = ap (λ (xs : List R). (step s o).1 ∷ xs) (answers-append step (step s o).0 os ps)

-- as many are handed back as are done
pub answers-long : {S O R : Type 0} (step : S → O → S × R) (s : S) (os : List O) → length (answers step s os) ≡ length os
answers-long step s [] = refl
answers-long step s (o ∷ os) = ap suc (answers-long step (step s o).0 os)
