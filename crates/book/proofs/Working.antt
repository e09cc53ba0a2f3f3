-- `work_event` works an event exactly as "Working an act" says, whatever the roles and rules.
-- Assumes nothing.
use Rattle.std.proofs.Common.{◌≡◌, refl, ap, ◌∙◌, subst, ◌↔◌, ◌⊎◌, inl, inr, ⊎_elim, List, [], ◌∷◌, ℕ, zero, suc, ◌+◌, ◌-◌, ◌≤◌, ◌<◌, arith, length}
use Rattle.std.proofs.Math.Option.{Option, none, some}
use Rattle.std.proofs.Math.ListN.{get_elem?}
use Rattle.grammar.specs.Trees.{named, place, Template, Response, pass, hold, send, anew}
use Rattle.grammar.specs.Valid.{ValidSlot, ValidSlots}
use Rattle.patterns.specs.Meets.{Order}
use Rattle.chain.specs.Work.{Outcome, committed, held, unfit, too_long, Duty, fill_slot, cons_filled, fill, chain, onward, respond, work, work_event}
use Rattle.book.specs.Names.{Name, Event}
use Rattle.book.specs.Working.{AfterResponses, after_none, after-pass, after-send, after-anew, Due, WorkEnds, ends-committed, ends_held, ends_unfit_send, ends_unfit_anew, ends-long, Unfit, Beyond, beyond_here, beyond_later}

module _ {N R : Type 0} (look : List N → List (Duty N R)) (offered : List N) where
  -- FROM THE COMPUTED OUTCOME TO THE WORDS

  -- one response, where n are worked and what follows it is known to end rightly
  module _ (go : List (Duty N R) → List N → Outcome N R) (n : ℕ) (few : n < 64)
      (further : (c : List (Duty N R)) (x : List N) → AfterResponses look offered (suc n) c x → WorkEnds look offered (go c x))
      (d : Duty N R) (rest : List (Duty N R)) (e : List N) (a : AfterResponses look offered n (d ∷ rest) e) where
    send-ends : (xs : Template N) (q : Option (List N)) → d.response ≡ send xs → fill e xs ≡ q → WorkEnds look offered (onward (λ x. go rest x) d.rule (suc n) q)
    send-ends xs none r f = ends_unfit_send few a r f
    send-ends xs (some x) r f = further rest x (after-send a r f)

    anew-ends : (xs : Template N) (q : Option (List N)) → d.response ≡ anew xs → fill e xs ≡ q → WorkEnds look offered (onward (λ x. go (look x) x) d.rule (suc n) q)
    anew-ends xs none r f = ends_unfit_anew few a r f
    anew-ends xs (some x) r f = further (look x) x (after-anew a r f)

    respond-ends : (x : Response N) → d.response ≡ x → WorkEnds look offered (respond look go d.rule (suc n) rest e x)
    unfolding respond
    respond-ends pass r = further rest e (after-pass a r)
    respond-ends hold r = ends_held few a r
    respond-ends (send xs) r = send-ends xs (fill e xs) r refl
    respond-ends (anew xs) r = anew-ends xs (fill e xs) r refl

  -- where n are worked and k are left to 64, what is left ends rightly
  work-ends : (k n : ℕ) → n + k ≡ 64 → (c : List (Duty N R)) (e : List N) → AfterResponses look offered n c e → WorkEnds look offered (work look k c e)
  unfolding work
  work-ends zero n h [] e a = let q : n ≡ 64 = omega arith in subst (λ (i : ℕ). WorkEnds look offered (committed e i)) q (ends-committed (omega arith) a)
  work-ends zero n h (d ∷ rest) e a = let q : n ≡ 64 = omega arith in ends-long (subst (λ (i : ℕ). AfterResponses look offered i (d ∷ rest) e) q a)
  work-ends (suc k) n h [] e a = let q : n ≡ 64 - suc k = omega arith in subst (λ (i : ℕ). WorkEnds look offered (committed e i)) q (ends-committed (omega arith) a)
  work-ends (suc k) n h (d ∷ rest) e a =
      let q : suc n ≡ 64 - k = omega arith in
      subst (λ (i : ℕ). WorkEnds look offered (respond look (λ c x. work look k c x) d.rule i rest e d.response)) q
      (respond-ends (λ c x. work look k c x) n (omega arith) (λ c x b. work-ends k (suc n) (omega arith) c x b) d rest e a d.response refl)

  -- AND BACK

  -- one response more is worked
  step-send : (k : ℕ) (d : Duty N R) (rest : List (Duty N R)) (e x : List N) (xs : Template N) → d.response ≡ send xs → fill e xs ≡ some x → work look (suc k) (d ∷ rest) e ≡ work look k rest x
  unfolding work respond
  step-send k d rest e x xs r f =
      ap (λ (y : Response N). respond look (λ c x. work look k c x) d.rule (64 - k) rest e y) r
      ∙ ap (λ (q : Option (List N)). onward (λ x. work look k rest x) d.rule (64 - k) q) f

  step-anew : (k : ℕ) (d : Duty N R) (rest : List (Duty N R)) (e x : List N) (xs : Template N) → d.response ≡ anew xs → fill e xs ≡ some x → work look (suc k) (d ∷ rest) e ≡ work look k (look x) x
  unfolding work respond
  step-anew k d rest e x xs r f =
      ap (λ (y : Response N). respond look (λ c x. work look k c x) d.rule (64 - k) rest e y) r
      ∙ ap (λ (q : Option (List N)). onward (λ x. work look k (look x) x) d.rule (64 - k) q) f

  step-pass : (k : ℕ) (d : Duty N R) (rest : List (Duty N R)) (e : List N) → d.response ≡ pass → work look (suc k) (d ∷ rest) e ≡ work look k rest e
  unfolding work respond
  step-pass k d rest e r = ap (λ (y : Response N). respond look (λ c x. work look k c x) d.rule (64 - k) rest e y) r

  -- the whole ends as what is left does
  whole-left : {n : ℕ} {c : List (Duty N R)} {e : List N} → AfterResponses look offered n c e → (k : ℕ) → n + k ≡ 64 → work look 64 (look offered) offered ≡ work look k c e
  whole-left after_none k h = let q : 64 ≡ k = omega arith in ap (λ (i : ℕ). work look i (look offered) offered) q
  whole-left (after-pass {n = n} {d = d} {rest = rest} {e = e} a r) k h = whole-left a (suc k) (omega arith) ∙ step-pass k d rest e r
  whole-left (after-send {n = n} {d = d} {rest = rest} {e = e} {x = x} {xs = xs} a r f) k h = whole-left a (suc k) (omega arith) ∙ step-send k d rest e x xs r f
  whole-left (after-anew {n = n} {d = d} {rest = rest} {e = e} {x = x} {xs = xs} a r f) k h = whole-left a (suc k) (omega arith) ∙ step-anew k d rest e x xs r f

  -- the last response
  last : (n : ℕ) (d : Duty N R) (rest : List (Duty N R)) (e : List N) → n < 64 → AfterResponses look offered n (d ∷ rest) e → (y : Response N) → d.response ≡ y
      → work look 64 (look offered) offered ≡ respond look (λ c x. work look (63 - n) c x) d.rule (suc n) rest e y
  unfolding work
  last n d rest e h a y r =
      let q : 64 - (63 - n) ≡ suc n = omega arith in
      whole-left a (suc (63 - n)) (omega arith)
      ∙ (ap (λ (i : ℕ). respond look (λ c x. work look (63 - n) c x) d.rule i rest e d.response) q
      ∙ ap (λ (z : Response N). respond look (λ c x. work look (63 - n) c x) d.rule (suc n) rest e z) r)

  ends-work : (o : Outcome N R) → WorkEnds look offered o → work look 64 (look offered) offered ≡ o
  unfolding work respond
  ends-work (committed e zero) (ends-committed h a) = whole-left a 64 refl
  ends-work (committed e (suc n)) (ends-committed h a) = whole-left a (63 - n) (omega arith) ∙ none_left (63 - n) n e (omega arith)
    where
      none_left : (k n : ℕ) (e : List N) → suc n + k ≡ 64 → work look k [] e ≡ committed e (suc n)
      none_left zero n e h = let q : 64 ≡ suc n = omega arith in ap (committed e) q
      none_left (suc k) n e h = let q : 64 - suc k ≡ suc n = omega arith in ap (committed e) q
  ends-work o (ends_held {n = n} {d = d} {rest = rest} {e = e} h a r) = last n d rest e h a hold r
  ends-work o (ends_unfit_send {n = n} {d = d} {rest = rest} {e = e} {xs = xs} h a r f) = last n d rest e h a (send xs) r ∙ ap (λ (q : Option (List N)). onward (λ x. work look (63 - n) rest x) d.rule (suc n) q) f
  ends-work o (ends_unfit_anew {n = n} {d = d} {rest = rest} {e = e} {xs = xs} h a r f) = last n d rest e h a (anew xs) r ∙ ap (λ (q : Option (List N)). onward (λ x. work look (63 - n) (look x) x) d.rule (suc n) q) f
  ends-work o (ends-long {d = d} {rest = rest} {e = e} a) = whole-left a 0 refl

-- An event's outcome is exactly what "Working an act" says.
pub work_exactly : {N R : Type 0} (o : Order N) (ds : List (Duty N R)) (e : List N) (out : Outcome N R) → (work_event o ds e ≡ out) ↔ WorkEnds (chain o ds) e out
unfolding work_event
work_exactly o ds e out = (
  λ q. subst (λ (x : Outcome _ _). WorkEnds (chain o ds) e x) q (work-ends (chain o ds) e 64 0 refl (chain o ds e) e after_none),
  λ h. ends-work (chain o ds) e out h,
)

-- ONE OUTCOME AT A TIME

module _ {N R : Type 0} (o : Order N) (ds : List (Duty N R)) (e : List N) where
  -- "Past the end of the chain the act is committed": C, with the count of the responses worked
  pub committed_exactly : (x : List N) (n : ℕ) → (work_event o ds e ≡ committed x n) ↔ ((n ≤ 64) × AfterResponses (chain o ds) e n [] x)
  committed_exactly x n = (λ q. go ((work_exactly o ds e (committed x n)).0 q), λ h. (work_exactly o ds e (committed x n)).1 (ends-committed h.0 h.1))
    where
      go : WorkEnds (chain o ds) e (committed x n) → (n ≤ 64) × AfterResponses (chain o ds) e n [] x
      go (ends-committed l a) = (l, a)

  -- "Hold ends.": H, with the hold itself counted
  pub held_exactly : (w : R) (n : ℕ) → (work_event o ds e ≡ held w (suc n)) ↔ ((n < 64) × ((d : Due (chain o ds) e n) × (d.duty.response ≡ hold) × (d.duty.rule ≡ w)))
  held_exactly w n = (λ q. go w n ((work_exactly o ds e (held w (suc n))).0 q), λ h. (work_exactly o ds e (held w (suc n))).1 (back h.0 h.1))
    where
      go : (w : R) (n : ℕ) → WorkEnds (chain o ds) e (held w (suc n)) → (n < 64) × ((d : Due (chain o ds) e n) × (d.duty.response ≡ hold) × (d.duty.rule ≡ w))
      go w n (ends_held {d = d} {rest = rest} {e = x} l a r) = (l, (record { duty = d; rest = rest; event = x; after = a }, r, refl))

      back : n < 64 → ((d : Due (chain o ds) e n) × (d.duty.response ≡ hold) × (d.duty.rule ≡ w)) → WorkEnds (chain o ds) e (held w (suc n))
      back l (d, r, q) = subst (λ (v : R). WorkEnds (chain o ds) e (held v (suc n))) q (ends_held l d.after r)

  -- "A template that names a place beyond the act's length is unfit and ends the work; it counts as worked and decides.": U
  pub unfit_exactly : (w : R) (n : ℕ) → (work_event o ds e ≡ unfit w (suc n)) ↔ ((n < 64) × ((d : Due (chain o ds) e n) × Unfit d.event d.duty.response × (d.duty.rule ≡ w)))
  unfit_exactly w n = (λ q. go w n ((work_exactly o ds e (unfit w (suc n))).0 q), λ h. (work_exactly o ds e (unfit w (suc n))).1 (back h.0 h.1))
    where
      go : (w : R) (n : ℕ) → WorkEnds (chain o ds) e (unfit w (suc n)) → (n < 64) × ((d : Due (chain o ds) e n) × Unfit d.event d.duty.response × (d.duty.rule ≡ w))
      go w n (ends_unfit_send {d = d} {rest = rest} {e = x} {xs = xs} l a r f) = (l, (record { duty = d; rest = rest; event = x; after = a }, record { template = xs; makes = inl r; none_made = f }, refl))
      go w n (ends_unfit_anew {d = d} {rest = rest} {e = x} {xs = xs} l a r f) = (l, (record { duty = d; rest = rest; event = x; after = a }, record { template = xs; makes = inr r; none_made = f }, refl))

      back : n < 64 → ((d : Due (chain o ds) e n) × Unfit d.event d.duty.response × (d.duty.rule ≡ w)) → WorkEnds (chain o ds) e (unfit w (suc n))
      back l (d, u, q) =
          subst (λ (v : R). WorkEnds (chain o ds) e (unfit v (suc n))) q
          (⊎_elim (λ r. ends_unfit_send l d.after r u.none_made) (λ r. ends_unfit_anew l d.after r u.none_made) u.makes)

  -- "Too long: 64 worked and another due; the due rule decides.": T, and never early
  pub too_long_exactly : (w : R) → (work_event o ds e ≡ too_long w) ↔ ((d : Due (chain o ds) e 64) × (d.duty.rule ≡ w))
  too_long_exactly w = (λ q. go w ((work_exactly o ds e (too_long w)).0 q), λ h. (work_exactly o ds e (too_long w)).1 (back h))
    where
      go : (w : R) → WorkEnds (chain o ds) e (too_long w) → (d : Due (chain o ds) e 64) × (d.duty.rule ≡ w)
      go w (ends-long {d = d} {rest = rest} {e = x} a) = (record { duty = d; rest = rest; event = x; after = a }, refl)

      back : (d : Due (chain o ds) e 64) × (d.duty.rule ≡ w) → WorkEnds (chain o ds) e (too_long w)
      back (d, q) = subst (λ (v : R). WorkEnds (chain o ds) e (too_long v)) q (ends-long d.after)

-- TEMPLATES

at_none : {N : Type 0} (e : List N) (i : ℕ) → (get_elem? e i ≡ none) ↔ (length e ≤ i)
at_none [] i = (λ q. omega arith, λ h. refl)
at_none (a ∷ e) zero = (λ q. let z : ◌≡◌ {A = ℕ} 0 1 = cc in omega arith, λ h. absurd (omega arith))
at_none (a ∷ e) (suc i) = (λ q. let k = (at_none e i).0 q in omega arith, λ h. (at_none e i).1 (omega arith))

cons_none : {N : Type 0} (n : Option N) (e : Option (List N)) → cons_filled n e ≡ none → (n ≡ none) ⊎ (e ≡ none)
cons_none none e q = inl refl
cons_none (some n) none q = inr refl
cons_none (some n) (some e) q = let z : ◌≡◌ {A = ℕ} 0 1 = cc in absurd (omega arith)

none_first : {N : Type 0} (n : Option N) (e : Option (List N)) → n ≡ none → cons_filled n e ≡ none
none_first none e q = refl
none_first (some n) e q = let z : ◌≡◌ {A = ℕ} 0 1 = cc in absurd (omega arith)

none_rest : {N : Type 0} (n : Option N) (e : Option (List N)) → e ≡ none → cons_filled n e ≡ none
none_rest none e q = refl
none_rest (some n) none q = refl
none_rest (some n) (some e) q = let z : ◌≡◌ {A = ℕ} 0 1 = cc in absurd (omega arith)

-- A template makes no event exactly when it "names a place beyond the act's length".
pub fill_none : (e : Event) (k : ℕ) (xs : Template Name) → ValidSlots k xs → (fill e xs ≡ none) ↔ Beyond e xs
unfolding fill fill_slot ValidSlots ValidSlot
fill_none e k xs g = (found k xs g, lost k xs g)
  where
    found : (k : ℕ) (xs : Template Name) → ValidSlots k xs → fill e xs ≡ none → Beyond e xs
    found k [] g q = let z : ◌≡◌ {A = ℕ} 0 1 = cc in absurd (omega arith)
    found zero (x ∷ xs) g q = absurd g
    found (suc k) (named w ∷ xs) g q = ⊎_elim (λ z. let y : ◌≡◌ {A = ℕ} 0 1 = cc in absurd (omega arith)) (λ z. beyond_later (found k xs g.1 z)) (cons_none (some w) (fill e xs) q)
    found (suc k) (place n ∷ xs) g q = ⊎_elim (λ z. let h = (at_none e (n - 1)).0 z in let p = g.0.0 in beyond_here (omega arith)) (λ z. beyond_later (found k xs g.1 z)) (cons_none (get_elem? e (n - 1)) (fill e xs) q)

    lost : (k : ℕ) (xs : Template Name) → ValidSlots k xs → Beyond e xs → fill e xs ≡ none
    lost zero [] g b = elim b [ ]
    lost (suc k) [] g b = elim b [ ]
    lost zero (x ∷ xs) g b = absurd g
    lost (suc k) (place n ∷ xs) g (beyond_here h) = none_first (get_elem? e (n - 1)) (fill e xs) ((at_none e (n - 1)).1 (omega arith))
    lost (suc k) (x ∷ xs) g (beyond_later b) = none_rest (fill_slot e x) (fill e xs) (lost k xs g.1 b)
