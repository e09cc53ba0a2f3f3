-- A committed event has no roles but those of the event offered and of the duties.
-- Assumes nothing.
use Rattle.std.proofs.Common.{◌≡◌, subst, List, [], ◌∷◌, ℕ, zero, suc, ◌-◌}
use Rattle.std.proofs.Math.Option.{Option, none, some}
use Rattle.grammar.specs.Trees.{Response, pass, hold, send, anew}
use Rattle.grammar.specs.Names.{response_names}
use Rattle.common.specs.All.{All}
use Rattle.patterns.specs.Meets.{Order}
use Rattle.chain.specs.Work.{Outcome, committed, held, unfit, too_long, Duty, fill, chain, onward, respond, work, work_event}
use Rattle.chain.specs.Rename.{DutyIn}
use Rattle.chain.proofs.NamesIn.{Each, fill_in, chain_in}

module _ {N R : Type 0} (In : N → Type 0) (o : Order N) (ds : List (Duty N R)) (all : All (DutyIn In) ds) where
  abbrev look : List N → List (Duty N R)
  look x = chain o ds x

  abbrev Stays : Outcome N R → Type 0
  Stays (committed e n) = All In e
  Stays (held r n) = Unit {0}
  Stays (unfit r n) = Unit {0}
  Stays (too_long r) = Unit {0}

  onward_in : (go : List N → Outcome N R) (r : R) (n : ℕ) → ((x : List N) → All In x → Stays (go x)) → (x : Option (List N)) → Each In x → Stays (onward go r n x)
  onward_in go r n h none k = tt
  onward_in go r n h (some x) k = h x k

  respond_in : (go : List (Duty N R) → List N → Outcome N R) → ((c : List (Duty N R)) (e : List N) → All (DutyIn In) c → All In e → Stays (go c e))
      → (r : R) (n : ℕ) (rest : List (Duty N R)) (e : List N) (x : Response N) → All (DutyIn In) rest → All In e → All In (response_names x) → Stays (respond look go r n rest e x)
  unfolding respond response_names
  respond_in go ih r n rest e pass k h l = ih rest e k h
  respond_in go ih r n rest e hold k h l = tt
  respond_in go ih r n rest e (send xs) k h l = onward_in (λ x. go rest x) r n (λ x q. ih rest x k q) (fill e xs) (fill_in In e xs h l)
  respond_in go ih r n rest e (anew xs) k h l = onward_in (λ x. go (look x) x) r n (λ x q. ih (look x) x (chain_in In o ds x all) q) (fill e xs) (fill_in In e xs h l)

  run_in : (k : ℕ) (c : List (Duty N R)) (e : List N) → All (DutyIn In) c → All In e → Stays (work look k c e)
  unfolding work
  run_in zero [] e p h = h
  run_in zero (d ∷ c) e p h = tt
  run_in (suc k) [] e p h = h
  run_in (suc k) (d ∷ c) e p h = respond_in (λ l x. work look k l x) (λ l x q i. run_in k l x q i) d.rule (64 - k) c e d.response p.1 h p.0.response

  pub work_in : (e : List N) → All In e → (x : List N) (n : ℕ) → work_event o ds e ≡ committed x n → All In x
  unfolding work_event
  work_in e h x n q = subst Stays q (run_in 64 (look e) e (chain_in In o ds e all) h)
