-- `is_below` decides `Below`, and a role that joins later changes nothing for those held before. For any names that `eq` compares rightly.
-- Assumes nothing.
use Rattle.std.proofs.Common.{◌≡◌, refl, sym, ap, ◌∙◌, subst, Bool, true, false, cond, ◌||◌, ◌↔◌, ⊎_elim, [], ◌∷◌}
use Rattle.common.proofs.Bools.{or_left, or_right, or_cases, not-true, true_not_false}
use Rattle.patterns.specs.Roles.{Role, Roles, Has, has_first, has_later, Below, below_itself, below-parent, is_held, is_below, Grown, grown_fresh, grown_more}

-- equal names compare equal, and only they
pub record Lawful {N : Type 0} (eq : N → N → Bool) : Type 0 where
  pub itself : (a : N) → eq a a ≡ true
  pub same : (a b : N) → eq a b ≡ true → a ≡ b

module _ {N : Type 0} (eq : N → N → Bool) where
  pub below_self : (rs : Roles N) (a b : N) → eq a b ≡ true → is_below eq rs a b ≡ true
  unfolding is_below
  below_self [] a b e = e
  below_self (r ∷ rs) a b e = or_left (eq a b) _ e

  pub below_up : (rs : Roles N) (a b : N) → (eq a b || is_below eq rs a b) ≡ is_below eq rs a b
  below_up rs a b = go (eq a b) refl
    where
      go : (q : Bool) → eq a b ≡ q → (q || is_below eq rs a b) ≡ is_below eq rs a b
      go true e = sym (below_self rs a b e)
      go false e = refl

module _ {N : Type 0} (eq : N → N → Bool) (lawful : Lawful eq) where
  module _ (r : Role N) (rs : Roles N) (new : is_held eq rs r.name ≡ false) where
    -- a name that is held is not the new one
    old : (n : N) → is_held eq rs n ≡ true → eq n r.name ≡ false
    old n h = not-true (eq n r.name) (λ e. true_not_false (is_held eq rs r.name) (sym (ap (is_held eq rs) (lawful.same n r.name e)) ∙ h) new)

    -- A later role alters `below` for no role held before.
    pub below-later : (a b : N) → is_held eq rs a ≡ true → is_below eq (r ∷ rs) a b ≡ is_below eq rs a b
    unfolding is_below
    below-later a b h = ap (λ (q : Bool). eq a b || is_below eq rs (cond q r.parent a) b) (old a h) ∙ below_up eq rs a b

  more : {r : Role N} {rs : Roles N} {a b : N} → Below rs a b → Below (r ∷ rs) a b
  more below_itself = below_itself
  more (below-parent h k) = below-parent (has_later h) (more k)

  sound : (rs : Roles N) (a b : N) → is_below eq rs a b ≡ true → Below rs a b
  unfolding is_below
  sound [] a b e = subst (λ (x : N). Below [] a x) (lawful.same a b e) below_itself
  sound (r ∷ rs) a b e =
      ⊎_elim
      (λ h. subst (λ (x : N). Below (r ∷ rs) a x) (lawful.same a b h) below_itself)
      (λ h. go (eq a r.name) refl (sound rs (cond (eq a r.name) r.parent a) b h))
      (or_cases (eq a b) _ e)
    where
      go : (q : Bool) → eq a r.name ≡ q → Below rs (cond q r.parent a) b → Below (r ∷ rs) a b
      go true h k = subst (λ (x : N). Below (r ∷ rs) x b) (sym (lawful.same a r.name h)) (below-parent has_first (more k))
      go false h k = more k

  has_held : {rs : Roles N} {a p : N} → Has rs a p → is_held eq rs a ≡ true
  has_held (has_first {r = r}) = or_left (eq r.name r.name) _ (lawful.itself r.name)
  has_held (has_later {r = r} {a = a} h) = or_right (eq a r.name) _ (has_held h)

  module _ (top : N) where
    parent-held : {rs : Roles N} → Grown eq top rs → {a p : N} → Has rs a p → is_held eq rs p ≡ true
    parent-held grown_fresh has_first = or_left (eq top top) _ (lawful.itself top)
    parent-held grown_fresh {a = a} {p = p} (has_later t) = elim t [ ]
    parent-held (grown_more {r = r} f h g) has_first = or_right (eq r.parent r.name) _ h
    parent-held (grown_more {r = r} f h g) (has_later {p = p} t) = or_right (eq p r.name) _ (parent-held g t)

    -- one step up
    up : {rs : Roles N} → Grown eq top rs → {a p : N} → Has rs a p → (b : N) → is_below eq rs p b ≡ true → is_below eq rs a b ≡ true
    unfolding is_below
    up grown_fresh has_first b e = e
    up grown_fresh {a = a} {p = p} (has_later t) b e = elim t [ ]
    up (grown_more {r = r} {rs = rs} f h g) has_first b e =
        or_right (eq r.name b) _
        (ap (λ (q : Bool). is_below eq rs (cond q r.parent r.name) b) (lawful.itself r.name) ∙ (sym (below-later r rs f r.parent b h) ∙ e))
    up (grown_more {r = r} {rs = rs} f h g) (has_later {a = a} {p = p} t) b e =
        below-later r rs f a b (has_held t) ∙ up g t b (sym (below-later r rs f p b (parent-held g t)) ∙ e)

    complete : {rs : Roles N} → Grown eq top rs → {a b : N} → Below rs a b → is_below eq rs a b ≡ true
    complete {rs} g (below_itself {a = a}) = below_self eq rs a a (lawful.itself a)
    complete g (below-parent {b = b} h k) = up g h b (complete g k)

    -- The computed test is the meaning, for roles as calls leave them.
    pub below_iff : (rs : Roles N) → Grown eq top rs → (a b : N) → (is_below eq rs a b ≡ true) ↔ Below rs a b
    below_iff rs g a b = (sound rs a b, λ k. complete g k)

    -- A later role alters `Below` for no role held before.
    pub below-kept : (r : Role N) (rs : Roles N) → Grown eq top (r ∷ rs) → Grown eq top rs → is_held eq rs r.name ≡ false
        → (a b : N) → is_held eq rs a ≡ true → Below (r ∷ rs) a b ↔ Below rs a b
    below-kept r rs g g' new a b h = (
      λ k. sound rs a b (sym (below-later r rs new a b h) ∙ complete g k),
      λ k. sound (r ∷ rs) a b (below-later r rs new a b h ∙ complete g' k),
    )
