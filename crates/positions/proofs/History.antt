-- Following a past by positions is right after any list of events: the positions are document 01's, and the past matches by them exactly where
-- Appendix A says so.
-- Assumes nothing.
use Rattle.std.proofs.Common.{◌≡◌, refl, sym, Bool, true, List, [], ◌∷◌, ◌++◌, append_assoc, append-nil, ◌↔◌, inl, inr, ⊎_elim, ℕ, suc, ◌+◌, arith, eqb, eqb-true, eq-eqb}
use Rattle.std.proofs.Math.Logic.Iff
use Rattle.positions.specs.Past.{Past, Sat, sat_pat, sat_empty, sat_seq, sat_left, sat_right, sat_stop, sat_more}
use Rattle.positions.specs.Matcher.{matches}
use Rattle.positions.specs.Numbers.{size, Allows, allow_pat, allow_empty, allow_seq, allow_left, allow_right, allow_stop, allow_more, Nullable, Begins, Ends, Before, met_at, Each, each_none, each_more}
use Rattle.positions.specs.Positions.{Positions, at_start, Held, After, Follows, Matched}
use Rattle.positions.specs.Walk.{step, steps, matches_now}
use Rattle.common.proofs.Bools.{and_both, and_right, or_left, or_right, same_test}
use Rattle.positions.proofs.Lists.{each_append, each_cut, each_map, each_last, each_nil, each_no_left, no_end, last_of}
use Rattle.positions.proofs.Allowed.{Within, within, within_at, swap}
use Rattle.positions.proofs.Matching.{matches_iff}
use Rattle.positions.proofs.WalkLaws.{met_at-left, met_at-right}
use Rattle.positions.proofs.Following.{step_iff, matches_now_iff}

module _ {P A : Type 0} (meets : A → P → Bool) where
  -- Events match a past where they meet, one by one, the patterns of a list that the past allows.

  pub number : {l : List A} {φ : Past P} → Sat meets l φ → (i : ℕ) → (w : List ℕ) × Allows φ i w × Each (λ a k. met_at (meets a) φ i k) l w
  number (sat_pat e) i = (suc i ∷ [], allow_pat, each_more (and_both (eq-eqb (suc i) (suc i) refl) e) each_none)
  number sat_empty i = ([], allow_empty, each_none)
  number (sat_seq {φ = φ} {ψ = ψ} s t) i =
      let x = number s i in
      let y = number t (i + size φ) in
      (x.0 ++ y.0, allow_seq x.1 y.1, (each_append (each_map (Within i (size φ)) (λ a k b h. or_left (met_at (meets a) φ i k) _ h) (within x.1) x.2) (each_map (Within (i + size φ) (size ψ)) (λ a k b h. or_right (met_at (meets a) φ i k) _ h) (within y.1) y.2)))
  number (sat_left {φ = φ} {ψ = ψ} s) i = let x = number s i in (x.0, allow_left x.1, each_map (Within i (size φ)) (λ a k b h. or_left (met_at (meets a) φ i k) _ h) (within x.1) x.2)
  number (sat_right {φ = φ} {ψ = ψ} t) i = let y = number t (i + size φ) in (y.0, allow_right y.1, each_map (Within (i + size φ) (size ψ)) (λ a k b h. or_right (met_at (meets a) φ i k) _ h) (within y.1) y.2)
  number sat_stop i = ([], allow_stop, each_none)
  number (sat_more s t) i =
      let x = number s i in
      let y = number t i in
      (x.0 ++ y.0, allow_more x.1 y.1, (each_append x.2 y.2))

  -- And only there.
  pub unnumber : {φ : Past P} {i : ℕ} {w : List ℕ} → Allows φ i w → {l : List A} → Each (λ a k. met_at (meets a) φ i k) l w → Sat meets l φ
  unnumber (allow_pat {p = p} {i = i}) (each_more {a = a} e each_none) = sat_pat (and_right (eqb (suc i) (suc i)) (meets a p) e)
  unnumber allow_empty each_none = sat_empty
  unnumber (allow_seq {φ = φ} {ψ = ψ} {i = i} {v = v} {w = w} s t) r =
      let c = each_cut v w r in
      rw c.2 (sat_seq (unnumber s (each_map (Within i (size φ)) (λ a k b h. met_at-left (meets a) φ ψ i k b h) (within s) c.3)) (unnumber t (each_map (Within (i + size φ) (size ψ)) (λ a k b h. met_at-right (meets a) φ ψ i k b h) (within t) c.4)))
  unnumber (allow_left {φ = φ} {ψ = ψ} {i = i} s) r = sat_left (unnumber s (each_map (Within i (size φ)) (λ a k b h. met_at-left (meets a) φ ψ i k b h) (within s) r))
  unnumber (allow_right {φ = φ} {ψ = ψ} {i = i} t) r = sat_right (unnumber t (each_map (Within (i + size φ) (size ψ)) (λ a k b h. met_at-right (meets a) φ ψ i k b h) (within t) r))
  unnumber allow_stop each_none = sat_stop
  unnumber (allow_more {v = v} {w = w} s t) r = let c = each_cut v w r in rw c.2 (sat_more (unnumber s c.3) (unnumber t c.4))

  -- no number of a past is 0
  not_zero : {φ : Past P} {k : ℕ} (w v : List ℕ) → Allows φ 0 (w ++ k ∷ v) → k ≡ 0 → ⊥
  not_zero {k} w v h e = let b = within_at w k v h in omega arith

  -- Before the first event the start alone is held.
  pub after-start : (φ : Past P) → After meets φ [] at_start
  after-start φ k = (
    λ e. inl (eqb-true k 0 e, refl),
    λ r. ⊎_elim (λ h. rw h.0 refl) (λ h. absurd (each_no_left h.0 k h.3)) r,
  )

  module _ (φ : Past P) (l : List A) (m : Positions) (h : After meets φ l m) where
    -- from position j, which may stand just before k
    after_step_held : (a : A) (k j : ℕ) → Held meets φ l j → Before φ 0 j k → met_at (meets a) φ 0 k ≡ true → Held meets φ (l ++ a ∷ []) k
    after_step_held a k j r b e =
        ⊎_elim
        (λ z. absurd (not_zero b.0 (k ∷ b.1) b.2 z.0))
        (λ z. inr (
          z.0 ++ j ∷ [],
          b.1,
          simp append_assoc (swap φ 0 z.0 j z.1 b.0 (k ∷ b.1) (simp append_assoc at z.2) b.2),
          each_append z.3 (each_more e each_none),
        ))
        r

    -- from the start
    after_step_start : (a : A) (k : ℕ) → Held meets φ l 0 → Begins φ 0 k → met_at (meets a) φ 0 k ≡ true → Held meets φ (l ++ a ∷ []) k
    after_step_start a k r b e =
        ⊎_elim
        (λ z. inr ([], b.0, b.1, rw z.1 (each_more e each_none)))
        (λ z. absurd (not_zero z.0 z.1 (simp append_assoc at z.2) refl))
        r

    after_step_from : (a : A) (k : ℕ) → Follows φ m (meets a) k → Held meets φ (l ++ a ∷ []) k
    after_step_from a k (e, (j, o, b)) =
        ⊎_elim
        (λ r. after_step_held a k j ((h j).0 o) r e)
        (λ r. after_step_start a k ((h 0).0 (rw r.0 at o)) r.1 e)
        b

    after_step_to : (a : A) (k : ℕ) → Held meets φ (l ++ a ∷ []) k → Follows φ m (meets a) k
    after_step_to a k r =
        ⊎_elim
        (λ z. absurd (no_end l a [] (sym z.1)))
        (λ z.
        let (w, v, al, me) = z in
        let c = each_last l a w k me in
        ⊎_elim
        (λ d. (c.1, (0, (h 0).1 (inl (refl, each_nil (rw d at c.0))), inr (refl, (v, rw d at al)))))
        (λ d.
        let (w', j, d') = d in
        let al' : Allows φ 0 (w' ++ j ∷ (k ∷ v)) = simp (d', append_assoc) at al in
        (c.1, (j, (h j).1 (inr (w', k ∷ v, simp append_assoc al', rw d' at c.0)), inl (w', v, al'))))
        (last_of w))
        r

    -- One event more keeps the positions right.
    pub after-step : (a : A) → After meets φ (l ++ a ∷ []) (step φ m (meets a))
    after-step a k = Iff.trans (step_iff φ m (meets a) k) (after_step_from a k, after_step_to a k)

  -- So do any number of events more.
  pub after-steps : (φ : Past P) (l : List A) (m : Positions) → After meets φ l m → (l' : List A) → After meets φ (l ++ l') (steps meets φ m l')
  after-steps φ l m h [] = rw append-nil h
  after-steps φ l m h (a ∷ l') = rw append_assoc at (after-steps φ (l ++ a ∷ []) (step φ m (meets a)) (after-step φ l m h a) l')

  -- The walk, from the start and over any list of events, sets exactly document 01's marks.
  pub after-all : (φ : Past P) (l : List A) → After meets φ l (steps meets φ at_start l)
  after-all φ l = after-steps φ [] at_start (after-start φ) l

  -- At the positions after the events l the past matches exactly where l matches it by Appendix A.

  module _ (φ : Past P) (l : List A) (m : Positions) (h : After meets φ l m) where
    sat_of_held : (k : ℕ) → Held meets φ l k → Ends φ 0 k → Sat meets l φ
    sat_of_held k r b =
        ⊎_elim
        (λ z. absurd (not_zero b.0 [] b.1 z.0))
        (λ z. unnumber (swap φ 0 z.0 k z.1 b.0 [] (simp append_assoc at z.2) b.1) z.3)
        r

    sat_of_start : Held meets φ l 0 → Nullable φ 0 → Sat meets l φ
    sat_of_start r n =
        ⊎_elim
        (λ z. rw z.1 (unnumber n each_none))
        (λ z. absurd (not_zero z.0 z.1 (simp append_assoc at z.2) refl))
        r

    matched_of_sat : Sat meets l φ → Matched φ m
    matched_of_sat s =
        let (w, al, me) = number s 0 in
        ⊎_elim
        (λ d. (0, (h 0).1 (inl (refl, each_nil (rw d at me))), inr (refl, rw d at al)))
        (λ d.
        let (v, k, d') = d in
        let al' : Allows φ 0 (v ++ k ∷ []) = rw d' at al in
        (k, (h k).1 (inr (v, [], rw append-nil al', rw d' at me)), inl (v, al')))
        (last_of w)

    pub matched_sat : Matched φ m ↔ Sat meets l φ
    matched_sat = (
      λ r. ⊎_elim (λ z. sat_of_held r.0 ((h r.0).0 r.1) z) (λ z. sat_of_start ((h 0).0 (rw z.0 at r.1)) z.1) r.2,
      matched_of_sat,
    )

    pub now_iff : (matches_now φ m ≡ true) ↔ Sat meets l φ
    now_iff = Iff.trans (matches_now_iff φ m) matched_sat

    pub now_matches : matches_now φ m ≡ matches meets φ l
    now_matches = same_test _ _ (Iff.trans now_iff (Iff.symm (matches_iff meets φ l)))

  -- So following any list of events by positions, from the start, answers as Appendix A does.
  pub following_is_right : (φ : Past P) (l : List A) → (matches_now φ (steps meets φ at_start l) ≡ true) ↔ Sat meets l φ
  following_is_right φ l = now_iff φ l (steps meets φ at_start l) (after-all φ l)
