-- The work of an event is the same under other names: it depends on nothing but how the roles at hand compare.
-- Assumes nothing.
use Rattle.std.proofs.Common.{◌≡◌, refl, sym, ◌∙◌, Bool, true, false, cond, ◌&&◌, List, [], ◌∷◌, map, ℕ, zero, suc, ◌-◌}
use Rattle.std.proofs.Math.Option
use Rattle.std.proofs.Math.Option.{Option, none, some}
use Rattle.std.proofs.Math.ListN.{get_elem?}
use Rattle.grammar.specs.Trees.{Pattern, named, place, Template, Response, pass, hold, send, anew}
use Rattle.grammar.specs.Rename.{map_pattern, map_slots, map_response}
use Rattle.grammar.specs.Names.{pattern_names, response_names}
use Rattle.common.specs.All.{All}
use Rattle.patterns.specs.Meets.{Order, meets}
use Rattle.patterns.proofs.MeetsLaws.{through, meets-map, meets_agree}
use Rattle.chain.specs.Work.{Outcome, Duty, fill_slot, cons_filled, fill, chain, onward, respond, work, work_event}
use Rattle.chain.specs.Rename.{map_duty, map_outcome, DutyIn}
use Rattle.chain.proofs.NamesIn.{Each, fill_in, chain_in}

module _ {M N R S : Type 0} (f : M → N) (g : R → S) (o : Order M) (o' : Order N) (In : M → Type 0)
    (is_agrees : (r p : M) → In r → In p → o.is r p ≡ o'.is (f r) (f p))
    (under_agrees : (r p : M) → In r → In p → o.under r p ≡ o'.under (f r) (f p)) where
  abbrev D : Duty M R → Duty N S
  D = map_duty f g

  meets-same : (e : List M) (p : Pattern M) → All In e → All In (pattern_names p) → meets o' (map f e) (map_pattern f p) ≡ meets o e p
  meets-same e p h k = meets-map f o' e p ∙ sym (meets_agree o (through f o') In In is_agrees under_agrees e h p k)

  pub chain-map : (ds : List (Duty M R)) (e : List M) → All (DutyIn In) ds → All In e → chain o' (map D ds) (map f e) ≡ map D (chain o ds e)
  unfolding chain
  chain-map [] e k h = refl
  chain-map (d ∷ ds) e k h = rw (meets-same e d.trigger h k.0.trigger, chain-map ds e k.1 h) (go (d.matched && meets o e d.trigger))
    where
      go : (b : Bool) → cond b (D d ∷ map D (chain o ds e)) (map D (chain o ds e)) ≡ map D (cond b (d ∷ chain o ds e) (chain o ds e))
      go true = refl
      go false = refl

  element_map : (e : List M) (i : ℕ) → get_elem? (map f e) i ≡ Option.map f (get_elem? e i)
  element_map [] i = refl
  element_map (a ∷ e) zero = refl
  element_map (a ∷ e) (suc i) = element_map e i

  cons_map : (x : Option M) (e : Option (List M)) → cons_filled (Option.map f x) (Option.map (map f) e) ≡ Option.map (map f) (cons_filled x e)
  cons_map none e = refl
  cons_map (some a) none = refl
  cons_map (some a) (some e) = refl

  fill-map : (e : List M) (xs : Template M) → fill (map f e) (map_slots f xs) ≡ Option.map (map f) (fill e xs)
  unfolding fill fill_slot map_slots
  fill-map e [] = refl
  fill-map e (named w ∷ xs) = rw (fill-map e xs) (cons_map (some w) (fill e xs))
  fill-map e (place n ∷ xs) = rw (fill-map e xs, element_map e (n - 1)) (cons_map (get_elem? e (n - 1)) (fill e xs))

  module _ (ds : List (Duty M R)) (all : All (DutyIn In) ds) where
    abbrev look : List M → List (Duty M R)
    look x = chain o ds x

    abbrev look' : List N → List (Duty N S)
    look' x = chain o' (map D ds) x

    -- the work that follows is the same
    abbrev Same : (List (Duty M R) → List M → Outcome M R) → (List (Duty N S) → List N → Outcome N S) → Type 0
    Same go go' = (c : List (Duty M R)) (e : List M) → All (DutyIn In) c → All In e → go' (map D c) (map f e) ≡ map_outcome f g (go c e)

    send-map : (go : List (Duty M R) → List M → Outcome M R) (go' : List (Duty N S) → List N → Outcome N S) → Same go go'
        → (r : R) (n : ℕ) (rest : List (Duty M R)) → All (DutyIn In) rest → (x : Option (List M)) → Each In x
        → onward (λ y. go' (map D rest) y) (g r) n (Option.map (map f) x) ≡ map_outcome f g (onward (λ y. go rest y) r n x)
    send-map go go' ih r n rest k none h = refl
    send-map go go' ih r n rest k (some x) h = ih rest x k h

    anew-map : (go : List (Duty M R) → List M → Outcome M R) (go' : List (Duty N S) → List N → Outcome N S) → Same go go'
        → (r : R) (n : ℕ) (x : Option (List M)) → Each In x
        → onward (λ y. go' (look' y) y) (g r) n (Option.map (map f) x) ≡ map_outcome f g (onward (λ y. go (look y) y) r n x)
    anew-map go go' ih r n none h = refl
    anew-map go go' ih r n (some x) h = rw (chain-map ds x all h) (ih (look x) x (chain_in In o ds x all) h)

    respond-map : (go : List (Duty M R) → List M → Outcome M R) (go' : List (Duty N S) → List N → Outcome N S) → Same go go'
        → (r : R) (n : ℕ) (rest : List (Duty M R)) (e : List M) (x : Response M) → All (DutyIn In) rest → All In e → All In (response_names x)
        → respond look' go' (g r) n (map D rest) (map f e) (map_response f x) ≡ map_outcome f g (respond look go r n rest e x)
    unfolding respond map_response response_names
    respond-map go go' ih r n rest e pass k h l = ih rest e k h
    respond-map go go' ih r n rest e hold k h l = refl
    respond-map go go' ih r n rest e (send xs) k h l = rw (fill-map e xs) (send-map go go' ih r n rest k (fill e xs) (fill_in In e xs h l))
    respond-map go go' ih r n rest e (anew xs) k h l = rw (fill-map e xs) (anew-map go go' ih r n (fill e xs) (fill_in In e xs h l))

    pub run-map : (k : ℕ) (c : List (Duty M R)) (e : List M) → All (DutyIn In) c → All In e
        → work look' k (map D c) (map f e) ≡ map_outcome f g (work look k c e)
    unfolding work
    run-map zero [] e p h = refl
    run-map zero (d ∷ c) e p h = refl
    run-map (suc k) [] e p h = refl
    run-map (suc k) (d ∷ c) e p h =
        respond-map (λ l x. work look k l x) (λ l x. work look' k l x) (λ l x q i. run-map k l x q i) d.rule (64 - k) c e d.response p.1 h p.0.response

    -- The work under the names that f and g give is the work, with its outcome under those names: where the orders agree on the roles with In, and
    -- the event and the duties name no other.
    pub work-map : (e : List M) → All In e → work_event o' (map D ds) (map f e) ≡ map_outcome f g (work_event o ds e)
    unfolding work_event
    work-map e h = rw (chain-map ds e all h) (run-map 64 (look e) e (chain_in In o ds e all) h)
