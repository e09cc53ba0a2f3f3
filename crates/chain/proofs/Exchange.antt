-- Two neighbouring rules that no event of the roles at hand makes due together may change places (document 02, C-23).
-- Assumes nothing.
use Rattle.std.proofs.Common.{◌≡◌, refl, ap, ◌∙◌, Bool, true, false, cond, ◌&&◌, List, [], ◌∷◌, ◌++◌, ℕ, zero, suc, ◌-◌}
use Rattle.std.proofs.Math.Option.{Option, none, some}
use Rattle.common.proofs.Bools.{true_not_false}
use Rattle.grammar.specs.Trees.{Response, pass, hold, send, anew}
use Rattle.grammar.specs.Names.{response_names}
use Rattle.common.specs.All.{All}
use Rattle.patterns.specs.Meets.{Order}
use Rattle.chain.specs.Work.{Outcome, Duty, fill, chain, onward, respond, work, work_event}
use Rattle.chain.specs.Rename.{DutyIn}
use Rattle.chain.specs.Steps.{is_due}
use Rattle.chain.proofs.NamesIn.{Each, fill_in, chain_in}

module _ {N R : Type 0} (In : N → Type 0) where
  -- the work depends on the chains that are looked up, for events of roles with In
  module _ (look look' : List N → List (Duty N R)) (all : (e : List N) → All (DutyIn In) (look e)) (same : (e : List N) → All In e → look e ≡ look' e) where
    abbrev Same : (List (Duty N R) → List N → Outcome N R) → (List (Duty N R) → List N → Outcome N R) → Type 0
    Same go go' = (c : List (Duty N R)) (e : List N) → All (DutyIn In) c → All In e → go c e ≡ go' c e

    module _ (go go' : List (Duty N R) → List N → Outcome N R) (ih : Same go go') where
      send-same : (r : R) (n : ℕ) (rest : List (Duty N R)) → All (DutyIn In) rest → (x : Option (List N)) → Each In x
          → onward (λ y. go rest y) r n x ≡ onward (λ y. go' rest y) r n x
      send-same r n rest k none h = refl
      send-same r n rest k (some x) h = ih rest x k h

      anew-same : (r : R) (n : ℕ) (x : Option (List N)) → Each In x → onward (λ y. go (look y) y) r n x ≡ onward (λ y. go' (look' y) y) r n x
      anew-same r n none h = refl
      anew-same r n (some x) h = ih (look x) x (all x) h ∙ ap (λ (c : List (Duty N R)). go' c x) (same x h)

      respond-same : (r : R) (n : ℕ) (rest : List (Duty N R)) (e : List N) (x : Response N) → All (DutyIn In) rest → All In e → All In (response_names x)
          → respond look go r n rest e x ≡ respond look' go' r n rest e x
      unfolding respond response_names
      respond-same r n rest e pass k h l = ih rest e k h
      respond-same r n rest e hold k h l = refl
      respond-same r n rest e (send xs) k h l = send-same r n rest k (fill e xs) (fill_in In e xs h l)
      respond-same r n rest e (anew xs) k h l = anew-same r n (fill e xs) (fill_in In e xs h l)

    pub work-same : (k : ℕ) → Same (λ c e. work look k c e) (λ c e. work look' k c e)
    unfolding work
    work-same zero [] e p h = refl
    work-same zero (d ∷ c) e p h = refl
    work-same (suc k) [] e p h = refl
    work-same (suc k) (d ∷ c) e p h =
        respond-same (λ l x. work look k l x) (λ l x. work look' k l x) (λ l x q i. work-same k l x q i) d.rule (64 - k) c e d.response p.1 h p.0.response

  module _ (o : Order N) where
    two : (p q : Bool) (a b : Duty N R) (c : List (Duty N R)) → (p && q) ≡ false
        → cond p (a ∷ cond q (b ∷ c) c) (cond q (b ∷ c) c) ≡ cond q (b ∷ cond p (a ∷ c) c) (cond p (a ∷ c) c)
    two true true a b c h = absurd (true_not_false true refl h)
    two true false a b c h = refl
    two false true a b c h = refl
    two false false a b c h = refl

    chain_exchange : (front back : List (Duty N R)) (a b : Duty N R) (e : List N) → (is_due o a e && is_due o b e) ≡ false
        → chain o (front ++ (a ∷ b ∷ back)) e ≡ chain o (front ++ (b ∷ a ∷ back)) e
    unfolding chain
    chain_exchange [] back a b e h = two (is_due o a e) (is_due o b e) a b (chain o back e) h
    chain_exchange (d ∷ front) back a b e h = ap (λ (c : List (Duty N R)). cond (is_due o d e) (d ∷ c) c) (chain_exchange front back a b e h)

    -- a and b stand one straight after the other; no event of roles with In makes both due; the duties name only such roles
    pub exchange : (front back : List (Duty N R)) (a b : Duty N R) → All (DutyIn In) (front ++ (a ∷ b ∷ back))
        → ((e : List N) → All In e → (is_due o a e && is_due o b e) ≡ false)
        → (e : List N) → All In e → work_event o (front ++ (a ∷ b ∷ back)) e ≡ work_event o (front ++ (b ∷ a ∷ back)) e
    unfolding work_event
    exchange front back a b k apart e h =
        work-same (λ x. chain o (front ++ (a ∷ b ∷ back)) x) (λ x. chain o (front ++ (b ∷ a ∷ back)) x) (λ x. chain_in In o (front ++ (a ∷ b ∷ back)) x k)
        (λ x p. chain_exchange front back a b x (apart x p)) 64 (chain o (front ++ (a ∷ b ∷ back)) e) e (chain_in In o (front ++ (a ∷ b ∷ back)) e k) h
        ∙ ap (λ (c : List (Duty N R)). work (λ x. chain o (front ++ (b ∷ a ∷ back)) x) 64 c e) (chain_exchange front back a b e (apart e h))
