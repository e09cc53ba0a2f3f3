-- Laws of the place of a packed name among those held.
-- Assumes nothing.
use Rattle.std.proofs.Common.{◌≡◌, refl, sym, Bool, true, false, cond, not, ◌||◌, List, [], ◌∷◌, ◌↔◌, ℕ, zero, suc, ◌+◌, ◌<◌, ◌≤◌, arith, eqb, ltb, length, get_or, eqb-true, eq-eqb, ne_eqb, lt-ltb, le-ltb, ltb-true, ltb-false, Some, None, is_some, unwrap_or}
use Prim.Native.Nat.compare
use Rattle.std.proofs.lemmas.Bool.{eqb-false}
use Rattle.std.specs.List.{position_or_len}
use Rattle.std.proofs.lemmas.List.Recursion.{is_position_or_len}
use Rattle.lexer.specs.Class.{among}
use Rattle.lexer.specs.Run.{run}
use Rattle.names.specs.Place.{differs, place, found}

module _ (x : ℕ) where
  -- one step along the list
  place_here : (n : ℕ) (ns : List ℕ) → n ≡ x → place x (n ∷ ns) ≡ 0
  unfolding place run differs
  place_here n ns e = rw (eq-eqb n x e) refl

  place-later : (n : ℕ) (ns : List ℕ) → (n ≡ x → ⊥) → place x (n ∷ ns) ≡ suc (place x ns)
  unfolding place run differs
  place-later n ns e = rw (ne_eqb n x e) refl

  -- the place of a name held holds it
  pub place_holds : (ns : List ℕ) → place x ns < length ns → get_or ns (place x ns) 0 ≡ x
  place_holds [] h = absurd (omega arith)
  place_holds (n ∷ ns) h = go (eqb n x) refl (place_holds ns)
    where
      go : (q : Bool) → eqb n x ≡ q → (place x ns < length ns → get_or ns (place x ns) 0 ≡ x) → get_or (n ∷ ns) (place x (n ∷ ns)) 0 ≡ x
      go true e ih = let p = eqb-true n x e in rw (place_here n ns p) p
      go false e ih = let p = place-later n ns (eqb-false n x e) in rw p (ih (omega arith))

  -- the place is not after any entry that is that name, so a name that is in the list is found
  pub place_found : (ns : List ℕ) (k : ℕ) → k < length ns → get_or ns k 0 ≡ x → place x ns ≤ k
  place_found [] k h q = absurd (omega arith)
  place_found (n ∷ ns) zero h q = omega (arith, place_here n ns q)
  place_found (n ∷ ns) (suc k) h q = go (eqb n x) refl (place_found ns k (omega arith) q)
    where
      go : (b : Bool) → eqb n x ≡ b → place x ns ≤ k → place x (n ∷ ns) ≤ suc k
      go true e ih = omega (arith, place_here n ns (eqb-true n x e))
      go false e ih = omega (arith, place-later n ns (eqb-false n x e))

  -- a place below the length is exactly a name in the list
  pub place_exactly : (ns : List ℕ) → (place x ns < length ns) ↔ ((k : ℕ) × (k < length ns) × (get_or ns k 0 ≡ x))
  place_exactly ns = (λ h. (place x ns, h, place_holds ns h), λ h. omega (arith, place_found ns h.0 h.1 h.2, h.1))

  pub place-among : (ns : List ℕ) → ltb (place x ns) (length ns) ≡ among x ns
  place-among [] = le-ltb (place x []) 0 (omega arith)
  place-among (n ∷ ns) = go (eqb n x) refl (place-among ns)
    where
      go : (b : Bool) → eqb n x ≡ b → ltb (place x ns) (length ns) ≡ among x ns → ltb (place x (n ∷ ns)) (suc (length ns)) ≡ eqb x n || among x ns
      go true e ih = let p = eqb-true n x e in rw (place_here n ns p, eq-eqb x n (sym p)) (lt-ltb 0 (suc (length ns)) (omega arith))
      go false e ih = let p = eqb-false n x e in rw (place-later n ns p, compare.suc-suc, ne_eqb x n (λ q. p (sym q))) ih

  -- a search from the front stops there
  pub place_first : (ns : List ℕ) → place x ns ≡ position_or_len (λ n. eqb n x) ns
  unfolding place run differs
  place_first ns = is_position_or_len (place x) (λ n. eqb n x) refl (λ n ns. step (eqb n x) n ns) ns
    where
      step : (b : Bool) (n : ℕ) (ns : List ℕ) → length (cond (not b) (n ∷ run (differs x) ns) []) ≡ cond b 0 (1 + place x ns)
      step true n ns = refl
      step false n ns = omega arith

  -- what is found is the place, which is below the length
  pub found-some : (ns : List ℕ) (i : ℕ) → found x ns ≡ Some i → (i ≡ place x ns) × (i < length ns)
  found-some ns i = go (ltb (place x ns) (length ns)) refl
    where
      go : (b : Bool) → ltb (place x ns) (length ns) ≡ b → cond b (Some (place x ns)) None ≡ Some i → (i ≡ place x ns) × (i < length ns)
      go true e f = let q : i ≡ place x ns = cc in (q, rw q (ltb-true (place x ns) (length ns) e))
      go false e f = absurd (cc)

  -- where nothing is found, the place is the length
  pub found-none : (ns : List ℕ) → found x ns ≡ None → length ns ≤ place x ns
  found-none ns = go (ltb (place x ns) (length ns)) refl
    where
      go : (b : Bool) → ltb (place x ns) (length ns) ≡ b → cond b (Some (place x ns)) None ≡ None → length ns ≤ place x ns
      go true e f = absurd (cc)
      go false e f = ltb-false (place x ns) (length ns) e

  -- a place below the length is found
  pub found-place : (ns : List ℕ) → place x ns < length ns → found x ns ≡ Some (place x ns)
  found-place ns h = rw (lt-ltb (place x ns) (length ns) h) refl

  -- a name is found where its place is below the length
  pub found-tells : (ns : List ℕ) → is_some (found x ns) ≡ ltb (place x ns) (length ns)
  found-tells ns = go (ltb (place x ns) (length ns)) refl
    where
      go : (b : Bool) → ltb (place x ns) (length ns) ≡ b → is_some (cond b (Some (place x ns)) None) ≡ b
      go true e = refl
      go false e = refl

  -- told by a number that is past the list where the name is not held
  pub found-below : (ns : List ℕ) (d : ℕ) → length ns ≤ d → ltb (unwrap_or (found x ns) d) (length ns) ≡ ltb (place x ns) (length ns)
  found-below ns d h = go (ltb (place x ns) (length ns)) refl
    where
      go : (b : Bool) → ltb (place x ns) (length ns) ≡ b → ltb (unwrap_or (cond b (Some (place x ns)) None) d) (length ns) ≡ b
      go true e = e
      go false e = le-ltb d (length ns) h
