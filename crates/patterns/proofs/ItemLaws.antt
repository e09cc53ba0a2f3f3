-- What each way through `items_end`, `met_item` and `items` shows.
-- Assumes nothing.
use Rattle.std.proofs.Common.{◌≡◌, refl, sym, ap, ◌∙◌, Bool, true, false, cond, Some, None, ◌&&◌, List, ◌++◌, ℕ, ◌+◌, ◌<◌, ◌≤◌, add-one, arith, eqb, ltb, leb, length, get_or, drop, drop_of_length-le, drop-cons, ltb-true, ltb-false, lt-ltb, le-ltb, le-leb, eq-eqb, ne_eqb}
use Rattle.std.proofs.Math.Nat.{add-sub_cancel_left}
use Rattle.std.proofs.lemmas.Bool.{lt-leb, false≢true}
use Rattle.std.proofs.lemmas.Option.{cond_some, none-some}
use Rattle.common.proofs.Bools.{and_right}
use Rattle.grammar.specs.Trees.{Item, exact, below, Items, close, star_close, item}
use Rattle.code.specs.Trees.{code_items}
use Rattle.patterns.specs.Meets.{item_meets, items_meet}
use Rattle.patterns.specs.Judged.{order_by, is_of, names_role, role_at, met_item, ItemsEnd, ItemsRead}
use Rattle.patterns.specs.declared.judge.Judged.{Judged}
use Rattle.patterns.proofs.Here.{none, here}

-- ---- where items end
module _ (code : List ℕ) (at : ℕ) where
  pub end_none : length code ≤ at → ItemsEnd code at at
  unfolding code_items
  end_none h = record { onwards = omega arith; right = go }
    where
      go : (xs : Items ℕ) (rest : List ℕ) → drop at code ≡ code_items xs ++ rest → at ≡ at + length (code_items xs)
      go star_close rest e = absurd (none code at _ _ h e)
      go close rest e = absurd (none code at _ _ h e)
      go (item (exact p) xs) rest e = absurd (none code at _ _ h e)
      go (item (below p) xs) rest e = absurd (none code at _ _ h e)

  pub end_here : get_or code at 0 ≡ 62 → ItemsEnd code at (at + 1)
  unfolding code_items
  end_here b = record { onwards = omega arith; right = go }
    where
      go : (xs : Items ℕ) (rest : List ℕ) → drop at code ≡ code_items xs ++ rest → at + 1 ≡ at + length (code_items xs)
      go star_close rest e = let h = here code at _ _ e in absurd (omega arith)
      go close rest e = omega arith
      go (item (exact p) xs) rest e = let h = here code at _ _ e in absurd (omega arith)
      go (item (below p) xs) rest e = let h = here code at _ _ e in absurd (omega arith)

  -- what stands after the first byte of items is items too
  pub end_more : (get_or code at 0 ≡ 62 → ⊥) → (r : ℕ) → ItemsEnd code (at + 1) r → ItemsEnd code at r
  unfolding code_items
  end_more b r ih = record { onwards = let p = ih.onwards in omega arith; right = go }
    where
      go : (xs : Items ℕ) (rest : List ℕ) → drop at code ≡ code_items xs ++ rest → r ≡ at + length (code_items xs)
      go star_close rest e = omega (arith, ih.right close rest (here code at _ _ e).next)
      go close rest e = absurd (b (here code at _ _ e).byte)
      go (item (exact p) xs) rest e = omega (arith, ih.right xs rest (here code at _ _ e).next)
      go (item (below p) xs) rest e = omega (arith, ih.right (item (exact p) xs) rest (here code at _ _ e).next)

-- ---- one item
-- the byte of a name stands for its role
pub named-role : (above : List ℕ) (w : Bool) (p role : ℕ) → names_role above w (128 + p) role ≡ is_of above w p role
unfolding names_role
named-role above w p role = rw (le-ltb (128 + p) 128 (omega arith), add-sub_cancel_left 128 p) refl

-- the test of one item, against the event from i on
role_met : (above event : List ℕ) (i : ℕ) (w : Bool) (p byte : ℕ) → byte ≡ 128 + p → role_at above w byte event i ≡ cond (ltb i (length event)) (is_of above w p (get_or event i 0)) false
unfolding role_at
role_met above event i w p byte e = rw (e, named-role above w p (get_or event i 0)) (go (ltb i (length event)) refl)
  where
    go : (t : Bool) → ltb i (length event) ≡ t → cond (leb (length event) i) false (is_of above w p (get_or event i 0)) ≡ cond (ltb i (length event)) (is_of above w p (get_or event i 0)) false
    go true q = rw (q, lt-leb (length event) i (ltb-true i (length event) q))
    go false q = rw (q, le-leb (length event) i (ltb-false i (length event) q))

-- an item that is met leaves the items after it, and one that is not decides
item_step : (above event : List ℕ) (i : ℕ) (x : Item ℕ) (xs : Items ℕ)
    → items_meet (order_by above) (drop i event) (item x xs) ≡ ((cond (ltb i (length event)) (item_meets (order_by above) (get_or event i 0) x) false) && items_meet (order_by above) (drop (i + 1) event) xs)
unfolding items_meet
item_step above event i x xs = go (ltb i (length event)) refl
  where
    go : (t : Bool) → ltb i (length event) ≡ t → items_meet (order_by above) (drop i event) (item x xs) ≡ ((cond t (item_meets (order_by above) (get_or event i 0) x) false) && items_meet (order_by above) (drop (i + 1) event) xs)
    go true q = let l : i < length event = ltb-true i (length event) q in rw (drop-cons event i 0 l, add-one) refl
    go false q = rw (drop_of_length-le event (ltb-false i (length event) q)) refl

-- no place: the test failed
cond_none : (b : Bool) (x : ℕ) → cond b (Some x) None ≡ None → b ≡ false
cond_none true x e = absurd (none-some x (sym e))
cond_none false x e = refl

-- the event has a role where an item is met
role_inside : (above event : List ℕ) (i : ℕ) (w : Bool) (byte : ℕ) → role_at above w byte event i ≡ true → i < length event
unfolding role_at
role_inside above event i w byte e = go (ltb i (length event)) refl e
  where
    go : (t : Bool) → ltb i (length event) ≡ t → cond (leb (length event) i) false (names_role above w byte (get_or event i 0)) ≡ true → i < length event
    go true q f = ltb-true i (length event) q
    go false q f = absurd (false≢true (rw (le-leb (length event) i (ltb-false i (length event) q)) at f))

module _ (above event : List ℕ) (i : ℕ) (code : List ℕ) (at : ℕ) where
  -- an item that is a name, and one with a plus before it
  as_name : (first : ℕ) → (first ≡ 43 → ⊥) → met_item above event i code first at ≡ cond (role_at above false first event i) (Some (at + 1)) None
  unfolding met_item
  as_name first n = rw (ne_eqb first 43 n) refl

  as_plus : (first : ℕ) → first ≡ 43 → at + 1 < length code → met_item above event i code first at ≡ cond (role_at above true (get_or code (at + 1) 0) event i) (Some (at + 2)) None
  unfolding met_item
  as_plus first e h = rw (eq-eqb first 43 e, lt-ltb (at + 1) (length code) h) refl

  -- an item that is met has a role, and ends further on
  pub met_inside : (first next : ℕ) → met_item above event i code first at ≡ Some next → (i < length event) × (at < next)
  unfolding met_item
  met_inside first next e = go (eqb first 43) e
    where
      go : (b : Bool) → cond b (cond (ltb (at + 1) (length code) && role_at above true (get_or code (at + 1) 0) event i) (Some (at + 2)) None) (cond (role_at above false first event i) (Some (at + 1)) None) ≡ Some next → (i < length event) × (at < next)
      go true q =
          let m = cond_some (ltb (at + 1) (length code) && role_at above true (get_or code (at + 1) 0) event i) (at + 2) next q in
          (role_inside above event i true (get_or code (at + 1) 0) (and_right (ltb (at + 1) (length code)) _ m.0), omega (arith, m.1))
      go false q =
          let m = cond_some (role_at above false first event i) (at + 1) next q in
          (role_inside above event i false first m.0, omega (arith, m.1))

-- ---- items
end-meets : (above event : List ℕ) (i : ℕ) → leb (length event) i ≡ items_meet (order_by above) (drop i event) close
unfolding items_meet
end-meets above event i = go (ltb i (length event)) refl
  where
    go : (t : Bool) → ltb i (length event) ≡ t → leb (length event) i ≡ items_meet (order_by above) (drop i event) close
    go true q = let l : i < length event = ltb-true i (length event) q in rw (lt-leb (length event) i l, drop-cons event i 0 l)
    go false q = let l : length event ≤ i = ltb-false i (length event) q in rw (le-leb (length event) i l, drop_of_length-le event l)

module _ (above event : List ℕ) (i : ℕ) (code : List ℕ) (at : ℕ) where
  -- nothing is spelled here
  pub no_items : (ok : Bool) → length code ≤ at → ItemsRead above event i code at (record { end = at; ok = ok })
  unfolding code_items
  no_items ok h = record { onwards = omega arith; right = go }
    where
      go : (xs : Items ℕ) (rest : List ℕ) → drop at code ≡ code_items xs ++ rest → (ok ≡ items_meet (order_by above) (drop i event) xs) × (at ≡ at + length (code_items xs))
      go star_close rest e = absurd (none code at _ _ h e)
      go close rest e = absurd (none code at _ _ h e)
      go (item (exact p) xs) rest e = absurd (none code at _ _ h e)
      go (item (below p) xs) rest e = absurd (none code at _ _ h e)

  pub closed : get_or code at 0 ≡ 62 → ItemsRead above event i code at (record { end = at + 1; ok = leb (length event) i })
  unfolding code_items
  closed b = record { onwards = omega arith; right = go }
    where
      go : (xs : Items ℕ) (rest : List ℕ) → drop at code ≡ code_items xs ++ rest → (leb (length event) i ≡ items_meet (order_by above) (drop i event) xs) × (at + 1 ≡ at + length (code_items xs))
      go star_close rest e = let h = here code at _ _ e in absurd (omega arith)
      go close rest e = (end-meets above event i, omega arith)
      go (item (exact p) xs) rest e = let h = here code at _ _ e in absurd (omega arith)
      go (item (below p) xs) rest e = let h = here code at _ _ e in absurd (omega arith)

  pub starred : get_or code at 0 ≡ 42 → ItemsRead above event i code at (record { end = at + 2; ok = true })
  unfolding code_items items_meet
  starred b = record { onwards = omega arith; right = go }
    where
      go : (xs : Items ℕ) (rest : List ℕ) → drop at code ≡ code_items xs ++ rest → (true ≡ items_meet (order_by above) (drop i event) xs) × (at + 2 ≡ at + length (code_items xs))
      go star_close rest e = (refl, omega arith)
      go close rest e = let h = here code at _ _ e in absurd (omega arith)
      go (item (exact p) xs) rest e = let h = here code at _ _ e in absurd (omega arith)
      go (item (below p) xs) rest e = let h = here code at _ _ e in absurd (omega arith)

  -- an item stands here
  module _ (first : ℕ) (is : get_or code at 0 ≡ first) (n₁ : first ≡ 62 → ⊥) (n₂ : first ≡ 42 → ⊥) where
    -- it is met, and the items after it decide
    pub item_on : (next : ℕ) → met_item above event i code first at ≡ Some next → (r : Judged) → ItemsRead above event (i + 1) code next r → ItemsRead above event i code at r
    unfolding code_items
    item_on next e r ih = record { onwards = let p = (met_inside above event i code at first next e).1 in let p' = ih.onwards in omega arith; right = go }
      where
        go : (xs : Items ℕ) (rest : List ℕ) → drop at code ≡ code_items xs ++ rest → (r.ok ≡ items_meet (order_by above) (drop i event) xs) × (r.end ≡ at + length (code_items xs))
        go star_close rest q = absurd (n₂ (sym is ∙ (here code at _ _ q).byte))
        go close rest q = absurd (n₁ (sym is ∙ (here code at _ _ q).byte))
        go (item (exact p) xs) rest q =
            let h = here code at _ _ q in
            let b : first ≡ 128 + p = sym is ∙ h.byte in
            let m = cond_some (role_at above false first event i) (at + 1) next (sym (as_name above event i code at first (λ z. absurd (omega arith))) ∙ e) in
            let d = ih.right xs rest (ap (λ (n : ℕ). drop n code) (sym m.1) ∙ h.next) in
            (d.0 ∙ sym (item_step above event i (exact p) xs ∙ ap (λ (t : Bool). t && items_meet (order_by above) (drop (i + 1) event) xs) (sym (role_met above event i false p first b) ∙ m.0)), omega (arith, d.1, m.1))
        go (item (below p) xs) rest q =
            let h = here code at _ _ q in
            let h' = here code (at + 1) _ _ h.next in
            let m = cond_some (role_at above true (get_or code (at + 1) 0) event i) (at + 2) next (sym (as_plus above event i code at first (sym is ∙ h.byte) h'.inside) ∙ e) in
            let z : next ≡ at + 1 + 1 = omega (arith, m.1) in
            let d = ih.right xs rest (ap (λ (n : ℕ). drop n code) z ∙ h'.next) in
            (d.0 ∙ sym (item_step above event i (below p) xs ∙ ap (λ (t : Bool). t && items_meet (order_by above) (drop (i + 1) event) xs) (sym (role_met above event i true p _ h'.byte) ∙ m.0)), omega (arith, d.1, m.1))

    -- it is not met, and that decides
    pub item_off : met_item above event i code first at ≡ None → (n : ℕ) → ItemsEnd code at n → ItemsRead above event i code at (record { end = n; ok = false })
    unfolding code_items
    item_off e n ie = record { onwards = ie.onwards; right = λ xs rest q. (go xs rest q, ie.right xs rest q) }
      where
        go : (xs : Items ℕ) (rest : List ℕ) → drop at code ≡ code_items xs ++ rest → false ≡ items_meet (order_by above) (drop i event) xs
        go star_close rest q = absurd (n₂ (sym is ∙ (here code at _ _ q).byte))
        go close rest q = absurd (n₁ (sym is ∙ (here code at _ _ q).byte))
        go (item (exact p) xs) rest q =
            let b : first ≡ 128 + p = sym is ∙ (here code at _ _ q).byte in
            let m = cond_none (role_at above false first event i) (at + 1) (sym (as_name above event i code at first (λ z. absurd (omega arith))) ∙ e) in
            sym (item_step above event i (exact p) xs ∙ ap (λ (t : Bool). t && items_meet (order_by above) (drop (i + 1) event) xs) (sym (role_met above event i false p first b) ∙ m))
        go (item (below p) xs) rest q =
            let h = here code at _ _ q in
            let h' = here code (at + 1) _ _ h.next in
            let m = cond_none (role_at above true (get_or code (at + 1) 0) event i) (at + 2) (sym (as_plus above event i code at first (sym is ∙ h.byte) h'.inside) ∙ e) in
            sym (item_step above event i (below p) xs ∙ ap (λ (t : Bool). t && items_meet (order_by above) (drop (i + 1) event) xs) (sym (role_met above event i true p _ h'.byte) ∙ m))
