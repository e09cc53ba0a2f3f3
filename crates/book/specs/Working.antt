-- How the work of an event goes, response by response, and how it ends: document 01, "Working an act", with nothing to compute.
-- `work_exactly` of proofs/Working.antt says that `work_event` of chain gives exactly this.
-- Assumes nothing.
use Rattle.std.specs.Prelude.{◌≡◌, ◌⊎◌, List, [], ◌∷◌, ℕ, suc, ◌≤◌, ◌<◌, length}
use Rattle.std.proofs.Math.Option.{none, some}
use Rattle.common.specs.Limits.{max_responses}
use Rattle.grammar.specs.Trees.{Slot, place, Template, Response, pass, hold, send, anew}
use Rattle.chain.specs.Work.{Outcome, committed, held, unfit, too_long, Duty, fill}

-- look: the chain of an event; offered: the event that is worked
module _ {N R : Type 0} (look : List N → List (Duty N R)) (offered : List N) where
  -- `AfterResponses n c e`: when n responses are worked, c is left of the chain and e is the event in hand
  pub data AfterResponses : ℕ → List (Duty N R) → List N → Type 0 where
    -- "an accepted act stands before commit. The chain is fixed at that moment"
    after_none : AfterResponses 0 (look offered) offered
    -- "Pass hands on to the next."
    after-pass : {n : ℕ} {d : Duty N R} {rest : List (Duty N R)} {e : List N} → AfterResponses n (d ∷ rest) e → d.response ≡ pass → AfterResponses (suc n) rest e
    -- "Send hands on the act made by its template, to the same chain."
    after-send : {n : ℕ} {d : Duty N R} {rest : List (Duty N R)} {e x : List N} {xs : Template N}
        → AfterResponses n (d ∷ rest) e → d.response ≡ send xs → fill e xs ≡ some x → AfterResponses (suc n) rest x
    -- "Anew drops the rest and looks up a new chain for the act made, which stands before commit again"
    after-anew : {n : ℕ} {d : Duty N R} {rest : List (Duty N R)} {e x : List N} {xs : Template N}
        → AfterResponses n (d ∷ rest) e → d.response ≡ anew xs → fill e xs ≡ some x → AfterResponses (suc n) (look x) x

  -- "another due": n responses are worked, and `duty` is the next of the chain, with `event` in hand
  pub record Due (n : ℕ) : Type 0 where
    pub duty : Duty N R
    pub rest : List (Duty N R)
    pub event : List N
    pub after : AfterResponses n (duty ∷ rest) event

  -- how the work ends, of 64 responses at most; the one that ends it is worked too
  pub data WorkEnds : Outcome N R → Type 0 where
    -- "Past the end of the chain the act is committed"
    ends-committed : {n : ℕ} {e : List N} → n ≤ max_responses → AfterResponses n [] e → WorkEnds (committed e n)
    -- "Hold ends."
    ends_held : {n : ℕ} {d : Duty N R} {rest : List (Duty N R)} {e : List N} → n < max_responses → AfterResponses n (d ∷ rest) e → d.response ≡ hold → WorkEnds (held d.rule (suc n))
    -- "A template that names a place beyond the act's length is unfit and ends the work; it counts as worked and decides."
    ends_unfit_send : {n : ℕ} {d : Duty N R} {rest : List (Duty N R)} {e : List N} {xs : Template N}
        → n < max_responses → AfterResponses n (d ∷ rest) e → d.response ≡ send xs → fill e xs ≡ none → WorkEnds (unfit d.rule (suc n))
    ends_unfit_anew : {n : ℕ} {d : Duty N R} {rest : List (Duty N R)} {e : List N} {xs : Template N}
        → n < max_responses → AfterResponses n (d ∷ rest) e → d.response ≡ anew xs → fill e xs ≡ none → WorkEnds (unfit d.rule (suc n))
    -- "Too long: 64 worked and another due; the due rule decides."
    ends-long : {d : Duty N R} {rest : List (Duty N R)} {e : List N} → AfterResponses max_responses (d ∷ rest) e → WorkEnds (too_long d.rule)

-- the response makes no event of e: its template names a place beyond the event's length (`fill_none` of proofs/Working.antt)
pub record Unfit {N : Type 0} (e : List N) (x : Response N) : Type 0 where
  pub template : Template N
  pub makes : (x ≡ send template) ⊎ (x ≡ anew template)
  pub none_made : fill e template ≡ none

-- "names a place beyond the act's length"
pub data Beyond {N : Type 0} (e : List N) : Template N → Type 0 where
  beyond_here : {n : ℕ} {xs : Template N} → length e < n → Beyond e (place n ∷ xs)
  beyond_later : {x : Slot N} {xs : Template N} → Beyond e xs → Beyond e (x ∷ xs)
