-- The id of a name: its place, where the table has it below 127.
-- Assumes nothing.
use Rattle.std.proofs.Common.{Some, None, ◌≡◌, refl, sym, Bool, true, false, not, List, ℕ, ◌<◌, ◌≤◌, arith, ltb, length, ne_eqb, lt-ltb, le-ltb, ltb-true}
use Rattle.names.specs.Name.{packed}
use Rattle.names.specs.Place.{place, found, held}
use Rattle.names.proofs.PlaceLaws.{found-some, found-none, found-place}
use Rattle.code.specs.Code.{id_of, no_id, unheld_id}

-- a table whose names all have an id: 64 roles now, and ids of 7 bits
abbrev pub Few : List ℕ → Type 0
Few ns = length ns ≤ unheld_id

module _ (ns w : List ℕ) where
  -- held, at a place that is an id
  pub id_place : (at : ℕ) → Some at ≡ found (packed w) ns → at < unheld_id → at ≡ id_of ns w
  unfolding id_of
  id_place at e m =
      let q = found-some (packed w) ns at (sym e) in
      let l : place (packed w) ns < length ns = rw (sym q.0) q.1 in
      let k : place (packed w) ns < unheld_id = rw (sym q.0) m in
      rw (lt-ltb (place (packed w) ns) (length ns) l, lt-ltb (place (packed w) ns) unheld_id k) q.0

  -- held, at a place that is none
  pub id_past : (at : ℕ) → Some at ≡ found (packed w) ns → unheld_id ≤ at → unheld_id ≡ id_of ns w
  unfolding id_of
  id_past at e m =
      let q = found-some (packed w) ns at (sym e) in
      let l : place (packed w) ns < length ns = rw (sym q.0) q.1 in
      let k : unheld_id ≤ place (packed w) ns = rw (sym q.0) m in
      rw (lt-ltb (place (packed w) ns) (length ns) l, le-ltb (place (packed w) ns) unheld_id k) refl

  -- not held
  pub id_none : None ≡ found (packed w) ns → unheld_id ≡ id_of ns w
  unfolding id_of
  id_none e = rw (le-ltb (place (packed w) ns) (length ns) (found-none (packed w) ns (sym e))) refl

  id_small : id_of ns w ≤ unheld_id
  unfolding id_of
  id_small = go (held ns w) (ltb (place (packed w) ns) unheld_id) refl refl
    where
      go : (p q : Bool) → held ns w ≡ p → ltb (place (packed w) ns) unheld_id ≡ q → id_of ns w ≤ unheld_id
      go true true e h = let l = ltb-true (place (packed w) ns) unheld_id h in rw (e, h) (omega arith)
      go true false e h = rw (e, h) (omega arith)
      go false q e h = rw e (omega arith)

  pub id_fits : (i : ℕ) → i ≡ id_of ns w → i ≤ unheld_id
  id_fits i e = rw e id_small

  -- a table of few names: the id of a name that is held is its place
  pub id_held : Few ns → held ns w ≡ true → place (packed w) ns ≡ id_of ns w
  id_held f e =
      let l = ltb-true (place (packed w) ns) (length ns) e in
      id_place (place (packed w) ns) (sym (found-place (packed w) ns l)) (omega arith)

  -- and a name has no id exactly where it is not held
  pub id_tells : Few ns → no_id ns w ≡ not (held ns w)
  unfolding id_of
  id_tells f = go (held ns w) refl
    where
      go : (q : Bool) → held ns w ≡ q → no_id ns w ≡ not q
      go true e =
          let l = ltb-true (place (packed w) ns) (length ns) e in
          rw (sym (id_held f e)) (ne_eqb (place (packed w) ns) unheld_id (λ z. omega arith))
      go false e = rw e refl
