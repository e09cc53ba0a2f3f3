-- What each way through `items_meet` and `meets` shows.
-- Assumes nothing.
use Rattle.std.proofs.Common.{◌≡◌, refl, sym, ap, ◌∙◌, Bool, true, false, ◌&&◌, List, [], ◌∷◌, ◌++◌, ℕ, ◌+◌, ◌-◌, ◌<◌, arith, eqb, length, get_or, drop, take_all, length-drop, ne_eqb}
use Rattle.std.specs.List.{slice_range}
use Rattle.grammar.specs.Trees.{Item, exact, below, Items, close, star_close, item, any_event, items, Pattern, plain, bracketed}
use Rattle.code.specs.Trees.{code_items, code_simple, code_pattern}
use Rattle.patterns.specs.Meets.{item_meets, items_meet, meets}
use Rattle.patterns.specs.Judged.{order_by, names_role, PatternRead}
use Rattle.patterns.specs.Met.{ItemsMet, PatternMet}
use Rattle.patterns.specs.declared.judge.Judged.{Judged}
use Rattle.patterns.proofs.ItemLaws.{named-role}

-- the first byte of a list, 0 where it has none, and the second
abbrev first : List ℕ → ℕ
first l = get_or l 0 0

abbrev second : List ℕ → ℕ
second l = get_or l 1 0

-- a part up to the end of a list
rest-of : (n : ℕ) (l : List ℕ) → slice_range l n (length l) ≡ drop n l
rest-of n l = take_all (length l - n) (drop n l) (omega (arith, length-drop n l))

module _ (above : List ℕ) where
  -- an item needs a role
  no-role : (roles : List ℕ) (x : Item ℕ) (xs : Items ℕ) → length roles < 1 → false ≡ items_meet (order_by above) roles (item x xs)
  unfolding items_meet
  no-role [] x xs h = refl
  no-role (a ∷ l) x xs h = absurd (omega arith)

  -- the end takes none
  no-more : (roles : List ℕ) → eqb (length roles) 0 ≡ items_meet (order_by above) roles close
  unfolding items_meet
  no-more [] = refl
  no-more (a ∷ l) = ne_eqb (length (a ∷ l)) 0 (λ e. absurd (omega arith))

module _ (above roles code : List ℕ) where
  abbrev Right : Bool → Type 0
  Right r = (xs : Items ℕ) (rest : List ℕ) → code ≡ code_items xs ++ rest → r ≡ items_meet (order_by above) roles xs

  -- nothing is spelled here
  pub met_none : length code < 1 → ItemsMet above roles code false
  unfolding code_items
  met_none n = record { right = go }
    where
      go : Right false
      go close rest e = let h = ap length e in absurd (omega arith)
      go star_close rest e = let h = ap length e in absurd (omega arith)
      go (item (exact p) xs) rest e = let h = ap length e in absurd (omega arith)
      go (item (below p) xs) rest e = let h = ap length e in absurd (omega arith)

  pub met_close : first code ≡ 62 → (r : Bool) → r ≡ eqb (length roles) 0 → ItemsMet above roles code r
  unfolding code_items
  met_close b r q = record { right = go }
    where
      go : Right r
      go close rest e = q ∙ no-more above roles
      go star_close rest e = let h = ap first e in absurd (omega arith)
      go (item (exact p) xs) rest e = let h = ap first e in absurd (omega arith)
      go (item (below p) xs) rest e = let h = ap first e in absurd (omega arith)

  pub met_star : first code ≡ 42 → ItemsMet above roles code true
  unfolding code_items items_meet
  met_star b = record { right = go }
    where
      go : Right true
      go close rest e = let h = ap first e in absurd (omega arith)
      go star_close rest e = refl
      go (item (exact p) xs) rest e = let h = ap first e in absurd (omega arith)
      go (item (below p) xs) rest e = let h = ap first e in absurd (omega arith)

  -- an item that no role is left for
  pub met_nobody : (first code ≡ 62 → ⊥) → (first code ≡ 42 → ⊥) → length roles < 1 → ItemsMet above roles code false
  unfolding code_items
  met_nobody n₁ n₂ l = record { right = go }
    where
      go : Right false
      go close rest e = absurd (n₁ (ap first e))
      go star_close rest e = absurd (n₂ (ap first e))
      go (item x xs) rest e = no-role above roles x xs l

  -- an item and a role: here says whether the role meets the item
  module _ (here : Bool) (role : ℕ) (others : List ℕ) where
    taken : roles ≡ role ∷ others → (x : Item ℕ) (xs : Items ℕ) → here ≡ item_meets (order_by above) role x → items_meet (order_by above) roles (item x xs) ≡ (here && items_meet (order_by above) others xs)
    unfolding items_meet
    taken er x xs e = rw (er, e) refl

    module _ (b : first code ≡ 43) (eh : here ≡ names_role above true (second code) role) (er : roles ≡ role ∷ others) where
      below-taken : (p : ℕ) (xs : Items ℕ) (after : List ℕ) → code ≡ 43 ∷ (128 + p) ∷ (code_items xs ++ after) → items_meet (order_by above) roles (item (below p) xs) ≡ (here && items_meet (order_by above) others xs)
      below-taken p xs after e = taken er (below p) xs (eh ∙ ap (λ (n : ℕ). names_role above true n role) (ap second e) ∙ named-role above true p role)

      pub unmet_below : here ≡ false → ItemsMet above roles code here
      unfolding code_items
      unmet_below y = record { right = go }
        where
          go : Right here
          go close after e = let h = ap first e in absurd (omega arith)
          go star_close after e = let h = ap first e in absurd (omega arith)
          go (item (exact p) xs) after e = let h = ap first e in absurd (omega arith)
          go (item (below p) xs) after e = y ∙ ap (λ (z : Bool). z && items_meet (order_by above) others xs) (sym y) ∙ sym (below-taken p xs after e)

      -- r: whether the others meet the rest
      pub met_below : here ≡ true → (rest : List ℕ) → rest ≡ slice_range code 2 (length code) → (r : Bool) → ItemsMet above others rest r → ItemsMet above roles code r
      unfolding code_items
      met_below y rest ec r ih = record { right = go }
        where
          go : Right r
          go close after e = let h = ap first e in absurd (omega arith)
          go star_close after e = let h = ap first e in absurd (omega arith)
          go (item (exact p) xs) after e = let h = ap first e in absurd (omega arith)
          go (item (below p) xs) after e =
              ih.right xs after (ec ∙ rest-of 2 code ∙ ap (drop 2) e) ∙ ap (λ (z : Bool). z && items_meet (order_by above) others xs) (sym y) ∙ sym (below-taken p xs after e)

    module _ (n₁ : first code ≡ 62 → ⊥) (n₂ : first code ≡ 42 → ⊥) (n₃ : first code ≡ 43 → length code < 2) (eh : here ≡ names_role above false (first code) role) (er : roles ≡ role ∷ others) where
      exact-taken : (p : ℕ) (xs : Items ℕ) (after : List ℕ) → code ≡ (128 + p) ∷ (code_items xs ++ after) → items_meet (order_by above) roles (item (exact p) xs) ≡ (here && items_meet (order_by above) others xs)
      exact-taken p xs after e = taken er (exact p) xs (eh ∙ ap (λ (n : ℕ). names_role above false n role) (ap first e) ∙ named-role above false p role)

      pub unmet_exact : here ≡ false → ItemsMet above roles code here
      unfolding code_items
      unmet_exact y = record { right = go }
        where
          go : Right here
          go close after e = absurd (n₁ (ap first e))
          go star_close after e = absurd (n₂ (ap first e))
          go (item (exact p) xs) after e = y ∙ ap (λ (z : Bool). z && items_meet (order_by above) others xs) (sym y) ∙ sym (exact-taken p xs after e)
          go (item (below p) xs) after e = let l = n₃ (ap first e) in let h = ap length e in absurd (omega arith)

      pub met_exact : here ≡ true → (rest : List ℕ) → rest ≡ slice_range code 1 (length code) → (r : Bool) → ItemsMet above others rest r → ItemsMet above roles code r
      unfolding code_items
      met_exact y rest ec r ih = record { right = go }
        where
          go : Right r
          go close after e = absurd (n₁ (ap first e))
          go star_close after e = absurd (n₂ (ap first e))
          go (item (exact p) xs) after e =
              ih.right xs after (ec ∙ rest-of 1 code ∙ ap (drop 1) e) ∙ ap (λ (z : Bool). z && items_meet (order_by above) others xs) (sym y) ∙ sym (exact-taken p xs after e)
          go (item (below p) xs) after e = let l = n₃ (ap first e) in let h = ap length e in absurd (omega arith)

-- a law for each way out of `items_meet`
pub ruleset items_laws = (met_none, met_close, met_star, met_nobody, met_below, unmet_below, met_exact, unmet_exact)

-- m: what is left of the code there
module _ (above event code : List ℕ) (at : ℕ) (m : List ℕ) (em : m ≡ slice_range code at (length code)) where
  left-is : {l : List ℕ} → drop at code ≡ l → m ≡ l
  left-is e = em ∙ rest-of at code ∙ e

  pub pattern_any : first m ≡ 97 → PatternMet above event code at true
  unfolding code_pattern code_simple meets items_meet
  pattern_any b = record { right = go }
    where
      go : (p : Pattern ℕ) (rest : List ℕ) → drop at code ≡ code_pattern p ++ rest → true ≡ meets (order_by above) event p
      go (plain any_event) rest e = refl
      go (plain (items xs)) rest e = let h = ap first (left-is e) in absurd (omega arith)
      go (bracketed c) rest e = let h = ap first (left-is e) in absurd (omega arith)

  pub pattern_items : first m ≡ 60 → (list : List ℕ) → list ≡ slice_range m 1 (length m) → (r : Bool) → ItemsMet above event list r → PatternMet above event code at r
  unfolding code_pattern code_simple meets
  pattern_items b list el r ih = record { right = go }
    where
      go : (p : Pattern ℕ) (rest : List ℕ) → drop at code ≡ code_pattern p ++ rest → r ≡ meets (order_by above) event p
      go (plain any_event) rest e = let h = ap first (left-is e) in absurd (omega arith)
      go (plain (items xs)) rest e = ih.right xs rest (el ∙ rest-of 1 m ∙ ap (drop 1) (left-is e))
      go (bracketed c) rest e = let h = ap first (left-is e) in absurd (omega arith)

-- any other pattern is judged to its end
pub pattern_judged : (above event code : List ℕ) (at : ℕ) (j : Judged) → PatternRead above event code at j → PatternMet above event code at j.ok
pattern_judged above event code at j h = record { right = λ p rest e. (h.right p rest e).0 }

-- a law for each way out of `meets`
pub ruleset pattern_laws = (pattern_any, pattern_items, pattern_judged)
