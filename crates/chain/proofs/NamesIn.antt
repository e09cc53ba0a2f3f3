-- The work names no roles but those of the event and of the duties: what each part of it makes has In where they have.
-- Assumes nothing.
use Rattle.std.proofs.Common.{Bool, true, false, cond, ◌&&◌, List, [], ◌∷◌, ℕ, zero, suc, ◌-◌}
use Rattle.std.proofs.Math.Option.{Option, none, some}
use Rattle.std.proofs.Math.ListN.{get_elem?}
use Rattle.grammar.specs.Trees.{named, place, Template}
use Rattle.grammar.specs.Names.{slots_names}
use Rattle.common.specs.All.{All}
use Rattle.patterns.specs.Meets.{Order, meets}
use Rattle.chain.specs.Work.{Duty, fill_slot, cons_filled, fill, chain}
use Rattle.chain.specs.Rename.{DutyIn}

module _ {N : Type 0} (In : N → Type 0) where
  abbrev pub One : Option N → Type 0
  One none = Unit {0}
  One (some a) = In a

  abbrev pub Each : Option (List N) → Type 0
  Each none = Unit {0}
  Each (some e) = All In e

  element_in : (e : List N) (i : ℕ) → All In e → One (get_elem? e i)
  element_in [] i h = tt
  element_in (a ∷ e) zero h = h.0
  element_in (a ∷ e) (suc i) h = element_in e i h.1

  cons_in : (x : Option N) (e : Option (List N)) → One x → Each e → Each (cons_filled x e)
  cons_in none e p q = tt
  cons_in (some a) none p q = tt
  cons_in (some a) (some e) p q = (p, q)

  pub fill_in : (e : List N) (xs : Template N) → All In e → All In (slots_names xs) → Each (fill e xs)
  unfolding fill fill_slot slots_names
  fill_in e [] h k = tt
  fill_in e (named w ∷ xs) h k = cons_in (some w) (fill e xs) k.0 (fill_in e xs h k.1)
  fill_in e (place n ∷ xs) h k = cons_in (get_elem? e (n - 1)) (fill e xs) (element_in e (n - 1) h) (fill_in e xs h k)

  pub chain_in : {R : Type 0} (o : Order N) (ds : List (Duty N R)) (e : List N) → All (DutyIn In) ds → All (DutyIn In) (chain o ds e)
  unfolding chain
  chain_in o [] e k = tt
  chain_in o (d ∷ ds) e k = go (d.matched && meets o e d.trigger) (chain_in o ds e k.1)
    where
      go : (b : Bool) → All (DutyIn In) (chain o ds e) → All (DutyIn In) (cond b (d ∷ chain o ds e) (chain o ds e))
      go true c = (k.0, c)
      go false c = c
