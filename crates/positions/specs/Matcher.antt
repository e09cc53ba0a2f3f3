-- A test that decides whether a list of events matches a past. It goes by the past, and tries every way to cut the list.
-- `matches_iff` of proofs/Matching.antt says that it decides `Sat`.
-- Assumes nothing.
use Rattle.std.specs.Prelude.{Bool, true, false, ◌&&◌, ◌||◌, List, [], ◌∷◌}
use Rattle.positions.specs.Past.{Past, pat, empty, seq, alt, star}

-- l is σ ++ ρ for some σ of which f holds and some ρ of which g holds
abbrev pub some_cut : {A : Type 0} → (List A → Bool) → (List A → Bool) → List A → Bool
some_cut f g [] = f [] && g []
some_cut f g (a ∷ l) = f [] && g (a ∷ l) || some_cut (λ σ. f (a ∷ σ)) g l

-- l is σ ++ ρ, g holds of σ, and ρ is made of parts of each of which f holds. σ is the rest of the part that is under way:
-- it is over, and a begins the next part, or it goes on with a.
abbrev pub some_parts : {A : Type 0} → (List A → Bool) → (List A → Bool) → List A → Bool
some_parts f g [] = g []
some_parts f g (a ∷ l) = g [] && some_parts f (λ σ. f (a ∷ σ)) l || some_parts f (λ σ. g (a ∷ σ)) l

-- l is made of parts, any number of them, of each of which f holds
abbrev pub parts : {A : Type 0} → (List A → Bool) → List A → Bool
parts f [] = true
parts f (a ∷ l) = some_parts f (λ σ. f (a ∷ σ)) l

-- the events l match the past
abbrev pub matches : {P A : Type 0} → (A → P → Bool) → Past P → List A → Bool
matches meets (pat p) [] = false
matches meets (pat p) (a ∷ []) = meets a p
matches meets (pat p) (a ∷ (b ∷ l)) = false
matches meets empty [] = true
matches meets empty (a ∷ l) = false
matches meets (seq φ ψ) l = some_cut (matches meets φ) (matches meets ψ) l
matches meets (alt φ ψ) l = matches meets φ l || matches meets ψ l
matches meets (star φ) l = parts (matches meets φ) l
