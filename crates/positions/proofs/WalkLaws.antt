-- The walk finds of each part of a past what the lists of numbers that the part allows say, for any set of positions.
-- Assumes nothing.
use Rattle.std.proofs.Common.{◌≡◌, refl, sym, Bool, true, ◌&&◌, ◌||◌, List, [], ◌∷◌, ◌++◌, ◌↔◌, ◌⊎◌, inl, inr, ⊎_elim, ℕ, suc, ◌+◌, arith, eqb, eqb-true, eq-eqb}
use Rattle.std.proofs.lemmas.Bool.{false≢true}
use Rattle.positions.specs.Past.{Past, pat, empty, seq, alt, star}
use Rattle.positions.specs.Numbers.{size, Allows, allow_pat, allow_empty, allow_seq, allow_left, allow_right, allow_stop, Nullable, Begins, Ends, Before, met_at}
use Rattle.positions.specs.Positions.{Positions}
use Rattle.positions.specs.Walk.{SetSummary, on_pat, on_empty, on_seq, on_alt, on_star, walk}
use Rattle.common.proofs.Bools.{and_both, and_left, and_right, or_left, or_right, or_cases}
use Rattle.positions.proofs.Lists.{no_end, cons_head, cons_tail, nil_cut}
use Rattle.positions.proofs.Allowed.{Within, seq_cut, within_at, within_second, allow_once, first-seq, first-star, begins_seq_left, begins_seq_right, last-seq, last-star, ends_seq_left, ends_seq_right, before-seq, before-star, before_seq_left, before_seq_right, before_seq_cut, before_star_again, empty-none}

-- some position held may end the part
abbrev pub Ended : {P : Type 0} → Positions → Past P → ℕ → Type 0
Ended m φ i = (k : ℕ) × (m k ≡ true) × Ends φ i k

-- some position held may stand just before k in the part
abbrev pub Reached : {P : Type 0} → Positions → Past P → ℕ → ℕ → Type 0
Reached m φ i k = (j : ℕ) × (m j ≡ true) × Before φ i j k

module _ {P : Type 0} (t : P → Bool) where
  pub met_at-within : (φ : Past P) (i k : ℕ) → met_at t φ i k ≡ true → Within i (size φ) k
  met_at-within (pat p) i k e = let d = eqb-true k (suc i) (and_left (eqb k (suc i)) (t p) e) in omega arith
  met_at-within empty i k e = absurd (false≢true e)
  met_at-within (seq φ ψ) i k e = ⊎_elim (λ h. let r = met_at-within φ i k h in omega arith) (λ h. let r = met_at-within ψ (i + size φ) k h in omega arith) (or_cases (met_at t φ i k) _ e)
  met_at-within (alt φ ψ) i k e = ⊎_elim (λ h. let r = met_at-within φ i k h in omega arith) (λ h. let r = met_at-within ψ (i + size φ) k h in omega arith) (or_cases (met_at t φ i k) _ e)
  met_at-within (star φ) i k e = met_at-within φ i k e

  -- of two parts side by side, the number of the one is none of the other
  pub met_at-left : (φ ψ : Past P) (i k : ℕ) → Within i (size φ) k → (met_at t φ i k || met_at t ψ (i + size φ) k) ≡ true → met_at t φ i k ≡ true
  met_at-left φ ψ i k b e = ⊎_elim (λ h. h) (λ h. let r = met_at-within ψ (i + size φ) k h in absurd (omega arith)) (or_cases (met_at t φ i k) _ e)

  pub met_at-right : (φ ψ : Past P) (i k : ℕ) → Within (i + size φ) (size ψ) k → (met_at t φ i k || met_at t ψ (i + size φ) k) ≡ true → met_at t ψ (i + size φ) k ≡ true
  met_at-right φ ψ i k b e = ⊎_elim (λ h. let r = met_at-within φ i k h in absurd (omega arith)) (λ h. h) (or_cases (met_at t φ i k) _ e)

  -- The summary s says what the positions m say of the part φ.
  pub record Says (m : Positions) (φ : Past P) (i : ℕ) (s : SetSummary) : Type 0 where
    pub nullable_iff : (s.nullable ≡ true) ↔ Nullable φ i
    pub ending_iff : (s.ending ≡ true) ↔ Ended m φ i
    pub first_iff : (k : ℕ) → (s.first k ≡ true) ↔ (Begins φ i k × (met_at t φ i k ≡ true))
    pub moved_iff : (k : ℕ) → (s.moved k ≡ true) ↔ (Reached m φ i k × (met_at t φ i k ≡ true))
    pub last_iff : (k : ℕ) → (s.last k ≡ true) ↔ Ends φ i k

-- the lists that a pattern allows
module _ {P : Type 0} where
  pat-number : {p : P} {i : ℕ} {u : List ℕ} → Allows (pat p) i u → (w : List ℕ) (k : ℕ) (v : List ℕ) → u ≡ w ++ k ∷ v → k ≡ suc i
  pat-number allow_pat [] k v d = sym (cons_head d)
  pat-number allow_pat (b ∷ w) k v d = absurd (no_end w k v (cons_tail d))

  pat-one : {p : P} {i : ℕ} {u : List ℕ} → Allows (pat p) i u → (w : List ℕ) (j k : ℕ) (v : List ℕ) → u ≡ w ++ j ∷ (k ∷ v) → ⊥
  pat-one allow_pat [] j k v d = no_end [] k v (cons_tail d)
  pat-one allow_pat (b ∷ w) j k v d = no_end w j (k ∷ v) (cons_tail d)

-- The rules of the summary are right, part by part.
module _ {P : Type 0} (t : P → Bool) (m : Positions) where
  pub says-pat : (p : P) (i : ℕ) → Says t m (pat p) i (on_pat (suc i) (m (suc i)) (t p))
  says-pat p i =
      record {
        nullable_iff = (λ e. absurd (false≢true e), λ h. elim h [ ]);
        ending_iff = (λ e. (suc i, e, ([], allow_pat)), λ r. rw (← pat-number r.2.1 r.2.0 r.0 [] refl) r.1);
        first_iff = λ k. (λ e. (([], rw (eqb-true k (suc i) (and_left (eqb k (suc i)) (t p) e)) allow_pat), e), λ r. r.1);
        moved_iff = λ k. (λ e. absurd (false≢true e), λ r. absurd (pat-one r.0.2.2 r.0.2.0 r.0.0 k r.0.2.1 refl));
        last_iff = λ k. (λ e. ([], rw (eqb-true k (suc i) e) allow_pat), λ r. eq-eqb k (suc i) (pat-number r.1 r.0 k [] refl));
      }

  pub says-empty : (i : ℕ) → Says t m empty i on_empty
  says-empty i =
      record {
        nullable_iff = (λ e. allow_empty, λ h. refl);
        ending_iff = (λ e. absurd (false≢true e), λ r. absurd (empty-none r.2.1 r.2.0 r.0 [] refl));
        first_iff = λ k. (λ e. absurd (false≢true e), λ r. r.1);
        moved_iff = λ k. (λ e. absurd (false≢true e), λ r. r.1);
        last_iff = λ k. (λ e. absurd (false≢true e), λ r. absurd (empty-none r.1 r.0 k [] refl));
      }

  nullable-seq : {φ ψ : Past P} {i : ℕ} → Nullable (seq φ ψ) i → Nullable φ i × Nullable ψ (i + size φ)
  nullable-seq h = let (w₁, w₂, e, s, u) = seq_cut h in let n = nil_cut w₁ w₂ e in (rw n.0 at s, rw n.1 at u)

  alt-cases : {φ ψ : Past P} {i : ℕ} {w : List ℕ} → Allows (alt φ ψ) i w → Allows φ i w ⊎ Allows ψ (i + size φ) w
  alt-cases (allow_left h) = inl h
  alt-cases (allow_right h) = inr h

  module _ (φ ψ : Past P) (i : ℕ) (s u : SetSummary) (p : Says t m φ i s) (q : Says t m ψ (i + size φ) u) where
    seq-ending : ((u.ending || u.nullable && s.ending) ≡ true) ↔ Ended m (seq φ ψ) i
    seq-ending = (
      λ e. ⊎_elim
          (λ h. let r = q.ending_iff.0 h in (r.0, r.1, ends_seq_right φ r.2))
          (λ h. let r = p.ending_iff.0 (and_right u.nullable _ h) in (r.0, r.1, ends_seq_left (q.nullable_iff.0 (and_left u.nullable _ h)) r.2))
          (or_cases u.ending _ e),
      λ r. ⊎_elim
          (λ h. or_left u.ending _ (q.ending_iff.1 (r.0, r.1, h)))
          (λ h. or_right u.ending _ (and_both (q.nullable_iff.1 h.0) (p.ending_iff.1 (r.0, r.1, h.1))))
          (last-seq r.2.0 r.0 r.2.1),
    )

    seq-first : (k : ℕ) → ((s.first k || s.nullable && u.first k) ≡ true) ↔ (Begins (seq φ ψ) i k × ((met_at t φ i k || met_at t ψ (i + size φ) k) ≡ true))
    seq-first k = (
      λ e. ⊎_elim
          (λ h. let r = (p.first_iff k).0 h in (begins_seq_left ψ r.0, or_left (met_at t φ i k) _ r.1))
          (λ h. let r = (q.first_iff k).0 (and_right s.nullable _ h) in (begins_seq_right (p.nullable_iff.0 (and_left s.nullable _ h)) r.0, or_right (met_at t φ i k) _ r.1))
          (or_cases (s.first k) _ e),
      λ r. ⊎_elim
          (λ h. or_left (s.first k) _ ((p.first_iff k).1 (h, met_at-left t φ ψ i k (within_at [] k h.0 h.1) r.1)))
          (λ h. or_right (s.first k) _ (and_both (p.nullable_iff.1 h.0) ((q.first_iff k).1 (h.1, met_at-right t φ ψ i k (within_at [] k h.1.0 h.1.1) r.1))))
          (first-seq r.0.1),
    )

    seq-moved : (k : ℕ) → ((s.moved k || (u.moved k || s.ending && u.first k)) ≡ true) ↔ (Reached m (seq φ ψ) i k × ((met_at t φ i k || met_at t ψ (i + size φ) k) ≡ true))
    seq-moved k = (
      λ e. ⊎_elim
          (λ h. let r = (p.moved_iff k).0 h in ((r.0.0, r.0.1, before_seq_left ψ r.0.2), or_left (met_at t φ i k) _ r.1))
          (λ h. ⊎_elim
          (λ g. let r = (q.moved_iff k).0 g in ((r.0.0, r.0.1, before_seq_right φ r.0.2), or_right (met_at t φ i k) _ r.1))
          (λ g. let x = p.ending_iff.0 (and_left s.ending _ g) in let y = (q.first_iff k).0 (and_right s.ending _ g) in ((x.0, x.1, before_seq_cut x.2 y.0), or_right (met_at t φ i k) _ y.1))
          (or_cases (u.moved k) _ h))
          (or_cases (s.moved k) _ e),
      λ r. let j = r.0.0 in let b = r.0.2 in ⊎_elim
          (λ h. or_left (s.moved k) _ ((p.moved_iff k).1 ((j, r.0.1, h), met_at-left t φ ψ i k (within_second h) r.1)))
          (λ h. or_right (s.moved k) _ (⊎_elim
          (λ g. or_left (u.moved k) _ ((q.moved_iff k).1 ((j, r.0.1, g), met_at-right t φ ψ i k (within_second g) r.1)))
          (λ g. or_right (u.moved k) _ (and_both (p.ending_iff.1 (j, r.0.1, g.0)) ((q.first_iff k).1 (g.1, met_at-right t φ ψ i k (within_at [] k g.1.0 g.1.1) r.1))))
          h))
          (before-seq b.0 j k b.1 b.2),
    )

    seq-last : (k : ℕ) → ((u.last k || u.nullable && s.last k) ≡ true) ↔ Ends (seq φ ψ) i k
    seq-last k = (
      λ e. ⊎_elim
          (λ h. ends_seq_right φ ((q.last_iff k).0 h))
          (λ h. ends_seq_left (q.nullable_iff.0 (and_left u.nullable _ h)) ((p.last_iff k).0 (and_right u.nullable _ h)))
          (or_cases (u.last k) _ e),
      λ r. ⊎_elim
          (λ h. or_left (u.last k) _ ((q.last_iff k).1 h))
          (λ h. or_right (u.last k) _ (and_both (q.nullable_iff.1 h.0) ((p.last_iff k).1 h.1)))
          (last-seq r.0 k r.1),
    )

    pub says-seq : Says t m (seq φ ψ) i (on_seq s u)
    says-seq =
        record {
          nullable_iff = (
            λ e. allow_seq (p.nullable_iff.0 (and_left s.nullable _ e)) (q.nullable_iff.0 (and_right s.nullable _ e)),
            λ h. let n = nullable-seq h in and_both (p.nullable_iff.1 n.0) (q.nullable_iff.1 n.1),
          );
          ending_iff = seq-ending;
          first_iff = seq-first;
          moved_iff = seq-moved;
          last_iff = seq-last;
        }

    alt-ending : ((s.ending || u.ending) ≡ true) ↔ Ended m (alt φ ψ) i
    alt-ending = (
      λ e. ⊎_elim
          (λ h. let r = p.ending_iff.0 h in (r.0, r.1, (r.2.0, allow_left r.2.1)))
          (λ h. let r = q.ending_iff.0 h in (r.0, r.1, (r.2.0, allow_right r.2.1)))
          (or_cases s.ending _ e),
      λ r. ⊎_elim
          (λ h. or_left s.ending _ (p.ending_iff.1 (r.0, r.1, (r.2.0, h))))
          (λ h. or_right s.ending _ (q.ending_iff.1 (r.0, r.1, (r.2.0, h))))
          (alt-cases r.2.1),
    )

    alt-first : (k : ℕ) → ((s.first k || u.first k) ≡ true) ↔ (Begins (alt φ ψ) i k × ((met_at t φ i k || met_at t ψ (i + size φ) k) ≡ true))
    alt-first k = (
      λ e. ⊎_elim
          (λ h. let r = (p.first_iff k).0 h in ((r.0.0, allow_left r.0.1), or_left (met_at t φ i k) _ r.1))
          (λ h. let r = (q.first_iff k).0 h in ((r.0.0, allow_right r.0.1), or_right (met_at t φ i k) _ r.1))
          (or_cases (s.first k) _ e),
      λ r. ⊎_elim
          (λ h. or_left (s.first k) _ ((p.first_iff k).1 ((r.0.0, h), met_at-left t φ ψ i k (within_at [] k r.0.0 h) r.1)))
          (λ h. or_right (s.first k) _ ((q.first_iff k).1 ((r.0.0, h), met_at-right t φ ψ i k (within_at [] k r.0.0 h) r.1)))
          (alt-cases r.0.1),
    )

    alt-moved : (k : ℕ) → ((s.moved k || u.moved k) ≡ true) ↔ (Reached m (alt φ ψ) i k × ((met_at t φ i k || met_at t ψ (i + size φ) k) ≡ true))
    alt-moved k = (
      λ e. ⊎_elim
          (λ h. let r = (p.moved_iff k).0 h in let b = r.0.2 in ((r.0.0, r.0.1, (b.0, b.1, allow_left b.2)), or_left (met_at t φ i k) _ r.1))
          (λ h. let r = (q.moved_iff k).0 h in let b = r.0.2 in ((r.0.0, r.0.1, (b.0, b.1, allow_right b.2)), or_right (met_at t φ i k) _ r.1))
          (or_cases (s.moved k) _ e),
      λ r. let b = r.0.2 in ⊎_elim
          (λ h. or_left (s.moved k) _ ((p.moved_iff k).1 ((r.0.0, r.0.1, (b.0, b.1, h)), met_at-left t φ ψ i k (within_second (b.0, b.1, h)) r.1)))
          (λ h. or_right (s.moved k) _ ((q.moved_iff k).1 ((r.0.0, r.0.1, (b.0, b.1, h)), met_at-right t φ ψ i k (within_second (b.0, b.1, h)) r.1)))
          (alt-cases b.2),
    )

    alt-last : (k : ℕ) → ((s.last k || u.last k) ≡ true) ↔ Ends (alt φ ψ) i k
    alt-last k = (
      λ e. ⊎_elim
          (λ h. let r = (p.last_iff k).0 h in (r.0, allow_left r.1))
          (λ h. let r = (q.last_iff k).0 h in (r.0, allow_right r.1))
          (or_cases (s.last k) _ e),
      λ r. ⊎_elim
          (λ h. or_left (s.last k) _ ((p.last_iff k).1 (r.0, h)))
          (λ h. or_right (s.last k) _ ((q.last_iff k).1 (r.0, h)))
          (alt-cases r.1),
    )

    pub says-alt : Says t m (alt φ ψ) i (on_alt s u)
    says-alt =
        record {
          nullable_iff = (
            λ e. ⊎_elim (λ h. allow_left (p.nullable_iff.0 h)) (λ h. allow_right (q.nullable_iff.0 h)) (or_cases s.nullable _ e),
            λ r. ⊎_elim (λ h. or_left s.nullable _ (p.nullable_iff.1 h)) (λ h. or_right s.nullable _ (q.nullable_iff.1 h)) (alt-cases r),
          );
          ending_iff = alt-ending;
          first_iff = alt-first;
          moved_iff = alt-moved;
          last_iff = alt-last;
        }

  module _ (φ : Past P) (i : ℕ) (s : SetSummary) (p : Says t m φ i s) where
    star-first : (k : ℕ) → (s.first k ≡ true) ↔ (Begins (star φ) i k × (met_at t φ i k ≡ true))
    star-first k = (
      λ e. let r = (p.first_iff k).0 e in ((r.0.0, allow_once r.0.1), r.1),
      λ r. (p.first_iff k).1 (first-star r.0.1 k r.0.0 refl, r.1),
    )

    star-moved : (k : ℕ) → ((s.moved k || s.ending && s.first k) ≡ true) ↔ (Reached m (star φ) i k × (met_at t φ i k ≡ true))
    star-moved k = (
      λ e. ⊎_elim
          (λ h. let r = (p.moved_iff k).0 h in let b = r.0.2 in ((r.0.0, r.0.1, (b.0, b.1, allow_once b.2)), r.1))
          (λ h. let x = p.ending_iff.0 (and_left s.ending _ h) in let y = (p.first_iff k).0 (and_right s.ending _ h) in ((x.0, x.1, before_star_again x.2 y.0), y.1))
          (or_cases (s.moved k) _ e),
      λ r. let b = r.0.2 in ⊎_elim
          (λ h. or_left (s.moved k) _ ((p.moved_iff k).1 ((r.0.0, r.0.1, h), r.1)))
          (λ h. or_right (s.moved k) _ (and_both (p.ending_iff.1 (r.0.0, r.0.1, h.0)) ((p.first_iff k).1 (h.1, r.1))))
          (before-star b.2 b.0 r.0.0 k b.1 refl),
    )

    pub says-star : Says t m (star φ) i (on_star s)
    says-star =
        record {
          nullable_iff = (λ e. allow_stop, λ h. refl);
          ending_iff = (λ e. let r = p.ending_iff.0 e in (r.0, r.1, (r.2.0, allow_once r.2.1)), λ r. p.ending_iff.1 (r.0, r.1, last-star r.2.1 r.2.0 r.0 refl));
          first_iff = star-first;
          moved_iff = star-moved;
          last_iff = λ k. (λ e. let r = (p.last_iff k).0 e in (r.0, allow_once r.1), λ r. (p.last_iff k).1 (last-star r.1 r.0 k refl));
        }

  -- The walk finds this of every past, for every set of positions.
  pub walk-says : (φ : Past P) (i : ℕ) → Says t m φ i (walk t m φ i)
  walk-says (pat p) i = says-pat p i
  walk-says empty i = says-empty i
  walk-says (seq φ ψ) i = says-seq φ ψ i (walk t m φ i) (walk t m ψ (i + size φ)) (walk-says φ i) (walk-says ψ (i + size φ))
  walk-says (alt φ ψ) i = says-alt φ ψ i (walk t m φ i) (walk t m ψ (i + size φ)) (walk-says φ i) (walk-says ψ (i + size φ))
  walk-says (star φ) i = says-star φ i (walk t m φ i) (walk-says φ i)
