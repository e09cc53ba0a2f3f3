-- Lists that are cut in two, and two lists side by side.
-- Assumes nothing.
use Rattle.std.proofs.Common.{◌≡◌, refl, sym, ap, Bool, true, List, [], ◌∷◌, ◌++◌, ◌⊎◌, inl, inr, ⊎_elim, ℕ, arith}
use Rattle.common.specs.All.{All}
use Rattle.positions.specs.Numbers.{Each, each_none, each_more}

module _ {A : Type 0} where
  pub cons_head : {a b : A} {v w : List A} → ◌≡◌ {A = List A} (a ∷ v) (b ∷ w) → a ≡ b
  cons_head e = cc

  pub cons_tail : {a b : A} {v w : List A} → ◌≡◌ {A = List A} (a ∷ v) (b ∷ w) → v ≡ w
  cons_tail e = cc

  -- a list that ends in something is not empty
  pub no_end : (w : List A) (a : A) (v : List A) → [] ≡ w ++ a ∷ v → ⊥
  no_end [] a v e = let z : ◌≡◌ {A = ℕ} 0 1 = cc in omega arith
  no_end (b ∷ w) a v e = let z : ◌≡◌ {A = ℕ} 0 1 = cc in omega arith

  -- the first of a list that is cut in two: the left part has it, or is empty
  pub cut_first : (a : A) (v w₁ w₂ : List A) → a ∷ v ≡ w₁ ++ w₂ → ((w₁ ≡ []) × (w₂ ≡ a ∷ v)) ⊎ ((v₁ : List A) × (w₁ ≡ a ∷ v₁) × (v ≡ v₁ ++ w₂))
  cut_first a v [] w₂ e = inl (refl, sym e)
  cut_first a v (b ∷ w₁) w₂ e = inr (w₁, ap (λ t. t ∷ w₁) (sym (cons_head e)), cons_tail e)

  -- an element of a list that is cut in two stands left of the cut or right of it
  pub cut_at : (w : List A) (a : A) (v w₁ w₂ : List A) → w ++ a ∷ v ≡ w₁ ++ w₂ → ((v₁ : List A) × (w₁ ≡ w ++ a ∷ v₁) × (v ≡ v₁ ++ w₂)) ⊎ ((x : List A) × (w₂ ≡ x ++ a ∷ v) × (w ≡ w₁ ++ x))
  cut_at [] a v [] w₂ e = inr ([], sym e, refl)
  cut_at [] a v (b ∷ w₁) w₂ e = inl (w₁, ap (λ t. t ∷ w₁) (sym (cons_head e)), cons_tail e)
  cut_at (c ∷ w) a v [] w₂ e = inr (c ∷ w, sym e, refl)
  cut_at (c ∷ w) a v (b ∷ w₁) w₂ e =
      ⊎_elim
      (λ r. inl (r.0, (let h = cons_head e in let t = r.1 in cc), r.2))
      (λ r. inr (r.0, r.1, (let h = cons_head e in let t = r.2 in cc)))
      (cut_at w a v w₁ w₂ (cons_tail e))

  pub nil_cut : (v w : List A) → [] ≡ v ++ w → (v ≡ []) × (w ≡ [])
  nil_cut [] w e = (refl, sym e)
  nil_cut (b ∷ v) w e = absurd (no_end [] b (v ++ w) e)

  -- a list is empty, or has a last element
  pub last_of : (w : List A) → (w ≡ []) ⊎ ((v : List A) × (a : A) × (w ≡ v ++ a ∷ []))
  last_of [] = inl refl
  last_of (b ∷ w) = ⊎_elim (λ e. inr ([], b, ap (λ t. b ∷ t) e)) (λ r. inr (b ∷ r.0, r.1, ap (λ t. b ∷ t) r.2)) (last_of w)

module _ {A B : Type 0} where
  pub each_append : {f : A → B → Bool} {l l' : List A} {w w' : List B} → Each f l w → Each f l' w' → Each f (l ++ l') (w ++ w')
  each_append each_none s = s
  each_append (each_more e r) s = each_more e (each_append r s)

  pub each_cut : {f : A → B → Bool} {l : List A} (w w' : List B) → Each f l (w ++ w') → (l₁ : List A) × (l₂ : List A) × (l ≡ l₁ ++ l₂) × Each f l₁ w × Each f l₂ w'
  each_cut {l = l} [] w' r = ([], l, refl, each_none, r)
  each_cut {f = f} (b ∷ w) w' (each_more {a = a} {l = l} e r) = let s = each_cut {f = f} {l = l} w w' r in (a ∷ s.0, s.1, ap (λ t. a ∷ t) s.2, each_more e s.3, s.4)

  -- f gives g at the elements of the second list
  pub each_map : {f g : A → B → Bool} (R : B → Type 0) → ((a : A) (b : B) → R b → f a b ≡ true → g a b ≡ true) → {l : List A} {w : List B} → All R w → Each f l w → Each g l w
  each_map R h p each_none = each_none
  each_map R h p (each_more {a = a} {b = b} e r) = each_more (h a b p.0 e) (each_map R h p.1 r)

  pub each_no_left : {f : A → B → Bool} (w : List B) (b : B) → Each f [] (w ++ b ∷ []) → ⊥
  each_no_left [] b r = elim r [ ]
  each_no_left (c ∷ w) b r = elim r [ ]

  each_no_right : {f : A → B → Bool} (l : List A) (a : A) → Each f (l ++ a ∷ []) [] → ⊥
  each_no_right [] a r = elim r [ ]
  each_no_right (c ∷ l) a r = elim r [ ]

  -- without the last of each
  pub each_last : {f : A → B → Bool} (l : List A) (a : A) (w : List B) (b : B) → Each f (l ++ a ∷ []) (w ++ b ∷ []) → Each f l w × (f a b ≡ true)
  each_last [] a [] b (each_more e r) = (each_none, e)
  each_last [] a (c ∷ w) b (each_more e r) = absurd (each_no_left w b r)
  each_last (d ∷ l) a [] b (each_more e r) = absurd (each_no_right l a r)
  each_last (d ∷ l) a (c ∷ w) b (each_more e r) = let s = each_last l a w b r in (each_more e s.0, s.1)

  pub each_nil : {f : A → B → Bool} {l : List A} → Each f l [] → l ≡ []
  each_nil each_none = refl
