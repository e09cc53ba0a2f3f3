-- What numbers can stand first, last, and one after another: the rules by which the walk computes.
-- Assumes nothing.
use Rattle.std.proofs.Common.{◌≡◌, refl, sym, List, [], ◌∷◌, ◌++◌, append_assoc, append-nil, ◌⊎◌, inl, inr, ⊎_elim, ℕ, suc, ◌+◌, ◌≤◌, ◌<◌, arith}
use Rattle.common.specs.All.{All}
use Rattle.common.proofs.AllLaws.{all_append, all_map, all_at}
use Rattle.positions.specs.Past.{Past, pat, empty, seq, alt, star}
use Rattle.positions.proofs.Lists.{cut_first, cut_at, no_end, cons_tail, nil_cut}
use Rattle.positions.specs.Numbers.{size, Allows, allow_pat, allow_empty, allow_seq, allow_left, allow_right, allow_stop, allow_more, Nullable, Begins, Ends, Before}

-- k is one of the n numbers after i
abbrev pub Within : ℕ → ℕ → ℕ → Type 0
Within i n k = (i < k) × (k ≤ i + n)

-- and so one of more numbers around them
wider : (i n j m : ℕ) → j ≤ i → i + n ≤ j + m → (w : List ℕ) → All (Within i n) w → All (Within j m) w
wider i n j m p q w h = all_map (Within i n) (Within j m) (λ k b. omega arith) w h

module _ {P : Type 0} where
  -- a list of a sequence, cut in two. (`allow_seq` itself is matched only at a list that is a variable.)
  pub seq_cut : {φ ψ : Past P} {i : ℕ} {u : List ℕ} → Allows (seq φ ψ) i u → (v : List ℕ) × (w : List ℕ) × (u ≡ v ++ w) × Allows φ i v × Allows ψ (i + size φ) w
  seq_cut (allow_seq {v = v} {w = w} s t) = (v, w, refl, s, t)

  -- an allowed list has numbers of the past only
  pub within : {φ : Past P} {i : ℕ} {w : List ℕ} → Allows φ i w → All (Within i (size φ)) w
  within (allow_pat {i = i}) = ((omega arith, omega arith), tt)
  within allow_empty = tt
  within (allow_seq {φ = φ} {ψ = ψ} {i = i} {v = v} {w = w} s t) =
      all_append (Within i (size φ + size ψ)) v w
      (wider i (size φ) i (size φ + size ψ) (omega arith) (omega arith) v (within s))
      (wider (i + size φ) (size ψ) i (size φ + size ψ) (omega arith) (omega arith) w (within t))
  within (allow_left {φ = φ} {ψ = ψ} {i = i} {w = w} s) = wider i (size φ) i (size φ + size ψ) (omega arith) (omega arith) w (within s)
  within (allow_right {φ = φ} {ψ = ψ} {i = i} {w = w} t) = wider (i + size φ) (size ψ) i (size φ + size ψ) (omega arith) (omega arith) w (within t)
  within allow_stop = tt
  within (allow_more {φ = φ} {i = i} {v = v} {w = w} s t) = all_append (Within i (size φ)) v w (within s) (within t)

  pub within_at : {φ : Past P} {i : ℕ} (w : List ℕ) (k : ℕ) (v : List ℕ) → Allows φ i (w ++ k ∷ v) → Within i (size φ) k
  within_at {φ} {i} w k v h = all_at (Within i (size φ)) w k v (within h)

  pub within_second : {φ : Past P} {i j k : ℕ} → Before φ i j k → Within i (size φ) k
  within_second {φ} {j} {k} r = within_at {φ = φ} (r.0 ++ j ∷ []) k r.1 (rw append_assoc r.2)

  -- every past allows some list
  pub some_word : (φ : Past P) (i : ℕ) → (w : List ℕ) × Allows φ i w
  some_word (pat p) i = (suc i ∷ [], allow_pat)
  some_word empty i = ([], allow_empty)
  some_word (seq φ ψ) i = let s = some_word φ i in let t = some_word ψ (i + size φ) in (s.0 ++ t.0, allow_seq s.1 t.1)
  some_word (alt φ ψ) i = let s = some_word φ i in (s.0, allow_left s.1)
  some_word (star φ) i = ([], allow_stop)

  -- a list of φ is one of φ*
  pub allow_once : {φ : Past P} {i : ℕ} {w : List ℕ} → Allows φ i w → Allows (star φ) i w
  allow_once {w} h = rw append-nil at (allow_more h allow_stop)

  -- first

  pub first-seq : {φ ψ : Past P} {i k : ℕ} {v : List ℕ} → Allows (seq φ ψ) i (k ∷ v) → Begins φ i k ⊎ (Nullable φ i × Begins ψ (i + size φ) k)
  first-seq {k} {v} h =
      let (w₁, w₂, e, s, t) = seq_cut h in
      ⊎_elim (λ r. inr (rw r.0 at s, (v, rw r.1 at t))) (λ r. inl (r.0, rw r.1 at s)) (cut_first k v w₁ w₂ e)

  pub first-star : {φ : Past P} {i : ℕ} {w : List ℕ} → Allows (star φ) i w → (k : ℕ) (v : List ℕ) → w ≡ k ∷ v → Begins φ i k
  first-star allow_stop k v d = absurd (no_end [] k v d)
  first-star (allow_more {v = w₁} {w = w₂} s t) k v d =
      ⊎_elim (λ r. first-star t k v r.1) (λ r. (r.0, rw r.1 at s)) (cut_first k v w₁ w₂ (sym d))

  pub begins_seq_left : {φ : Past P} (ψ : Past P) {i k : ℕ} → Begins φ i k → Begins (seq φ ψ) i k
  begins_seq_left {φ} ψ {i} r = let t = some_word ψ (i + size φ) in (r.0 ++ t.0, allow_seq r.1 t.1)

  pub begins_seq_right : {φ ψ : Past P} {i k : ℕ} → Nullable φ i → Begins ψ (i + size φ) k → Begins (seq φ ψ) i k
  begins_seq_right s r = (r.0, allow_seq s r.1)

  -- last

  pub last-seq : {φ ψ : Past P} {i : ℕ} (w : List ℕ) (k : ℕ) → Allows (seq φ ψ) i (w ++ k ∷ []) → Ends ψ (i + size φ) k ⊎ (Nullable ψ (i + size φ) × Ends φ i k)
  last-seq w k h =
      let (w₁, w₂, e, s, t) = seq_cut h in
      ⊎_elim
      (λ r. let n = nil_cut r.0 w₂ r.2 in inr (rw n.1 at t, (w, rw (r.1, n.0) at s)))
      (λ r. inl (r.0, rw r.1 at t))
      (cut_at w k [] w₁ w₂ e)

  pub last-star : {φ : Past P} {i : ℕ} {u : List ℕ} → Allows (star φ) i u → (w : List ℕ) (k : ℕ) → u ≡ w ++ k ∷ [] → Ends φ i k
  last-star allow_stop w k d = absurd (no_end w k [] d)
  last-star (allow_more {v = w₁} {w = w₂} s t) w k d =
      ⊎_elim
      (λ r. let n = nil_cut r.0 w₂ r.2 in (w, rw (r.1, n.0) at s))
      (λ r. last-star t r.0 k r.1)
      (cut_at w k [] w₁ w₂ (sym d))

  pub ends_seq_left : {φ ψ : Past P} {i k : ℕ} → Nullable ψ (i + size φ) → Ends φ i k → Ends (seq φ ψ) i k
  ends_seq_left t r = (r.0, rw append-nil at (allow_seq r.1 t))

  pub ends_seq_right : (φ : Past P) {ψ : Past P} {i k : ℕ} → Ends ψ (i + size φ) k → Ends (seq φ ψ) i k
  ends_seq_right φ {i} r = let s = some_word φ i in (s.0 ++ r.0, rw append_assoc (allow_seq s.1 r.1))

  -- one directly after the other

  pub before-seq : {φ ψ : Past P} {i : ℕ} (w : List ℕ) (j k : ℕ) (v : List ℕ) → Allows (seq φ ψ) i (w ++ j ∷ (k ∷ v)) → Before φ i j k ⊎ (Before ψ (i + size φ) j k ⊎ (Ends φ i j × Begins ψ (i + size φ) k))
  before-seq w j k v h =
      let (w₁, w₂, e, s, t) = seq_cut h in
      ⊎_elim
      (λ r. ⊎_elim
      (λ q. inr (inr ((w, rw (r.1, q.0) at s), (v, rw q.1 at t))))
      (λ q. inl (w, q.0, rw (r.1, q.1) at s))
      (cut_first k v r.0 w₂ r.2))
      (λ r. inr (inl (r.0, v, rw r.1 at t)))
      (cut_at w j (k ∷ v) w₁ w₂ e)

  pub before-star : {φ : Past P} {i : ℕ} {u : List ℕ} → Allows (star φ) i u → (w : List ℕ) (j k : ℕ) (v : List ℕ) → u ≡ w ++ j ∷ (k ∷ v) → Before φ i j k ⊎ (Ends φ i j × Begins φ i k)
  before-star allow_stop w j k v d = absurd (no_end w j (k ∷ v) d)
  before-star (allow_more {v = w₁} {w = w₂} s t) w j k v d =
      ⊎_elim
      (λ r. ⊎_elim
      (λ q. inr ((w, rw (r.1, q.0) at s), first-star t k v q.1))
      (λ q. inl (w, q.0, rw (r.1, q.1) at s))
      (cut_first k v r.0 w₂ r.2))
      (λ r. before-star t r.0 j k v r.1)
      (cut_at w j (k ∷ v) w₁ w₂ (sym d))

  pub before_seq_left : {φ : Past P} (ψ : Past P) {i j k : ℕ} → Before φ i j k → Before (seq φ ψ) i j k
  before_seq_left {φ} ψ {i} r = let t = some_word ψ (i + size φ) in (r.0, r.1 ++ t.0, rw append_assoc at (allow_seq r.2 t.1))

  pub before_seq_right : (φ : Past P) {ψ : Past P} {i j k : ℕ} → Before ψ (i + size φ) j k → Before (seq φ ψ) i j k
  before_seq_right φ {i} r = let s = some_word φ i in (s.0 ++ r.0, r.1, rw append_assoc (allow_seq s.1 r.2))

  pub before_seq_cut : {φ ψ : Past P} {i j k : ℕ} → Ends φ i j → Begins ψ (i + size φ) k → Before (seq φ ψ) i j k
  before_seq_cut s t = (s.0, t.0, rw append_assoc at (allow_seq s.1 t.1))

  pub before_star_again : {φ : Past P} {i j k : ℕ} → Ends φ i j → Begins φ i k → Before (star φ) i j k
  before_star_again s t = (s.0, t.0, rw append_assoc at (allow_more s.1 (allow_once t.1)))

  -- What may follow a number does not depend on what stands before it: of two allowed lists with j, the first up to j and the second from
  -- there on are an allowed list.

  abbrev pub Swaps : Past P → ℕ → Type 0
  Swaps φ i = (x : List ℕ) (j : ℕ) (y x' y' : List ℕ) → Allows φ i (x ++ j ∷ y) → Allows φ i (x' ++ j ∷ y') → Allows φ i (x ++ j ∷ y')

  swap_pat : {p : P} {i : ℕ} {u u' : List ℕ} → Allows (pat p) i u → Allows (pat p) i u' → (x : List ℕ) (j : ℕ) (y x' y' : List ℕ) → u ≡ x ++ j ∷ y → u' ≡ x' ++ j ∷ y' → Allows (pat p) i (x ++ j ∷ y')
  swap_pat allow_pat allow_pat [] j y [] y' d d' = rw (← d') allow_pat
  swap_pat allow_pat allow_pat [] j y (c ∷ x') y' d d' = absurd (no_end x' j y' (cons_tail d'))
  swap_pat allow_pat allow_pat (b ∷ x) j y x' y' d d' = absurd (no_end x j y (cons_tail d))

  -- the empty past allows no list with a number in it
  pub empty-none : {i : ℕ} {u : List ℕ} → Allows {P = P} empty i u → (x : List ℕ) (j : ℕ) (y : List ℕ) → u ≡ x ++ j ∷ y → ⊥
  empty-none allow_empty x j y d = no_end x j y d

  swap_seq : {φ ψ : Past P} {i : ℕ} → Swaps φ i → Swaps ψ (i + size φ) → Swaps (seq φ ψ) i
  swap_seq f g x j y x' y' h h' =
      let (w₁, w₂, e, s, t) = seq_cut h in
      let (w₁', w₂', e', s', t') = seq_cut h' in
      ⊎_elim
      (λ r. ⊎_elim
      (λ r'. rw r'.2 (rw append_assoc at (allow_seq (f x j r.0 x' r'.0 (rw r.1 at s) (rw r'.1 at s')) t')))
      (λ r'. let p = within_at x j r.0 (rw r.1 at s) in let q = within_at r'.0 j y' (rw r'.1 at t') in absurd (omega arith))
      (cut_at x' j y' w₁' w₂' e'))
      (λ r. ⊎_elim
      (λ r'. let p = within_at x' j r'.0 (rw r'.1 at s') in let q = within_at r.0 j y (rw r.1 at t) in absurd (omega arith))
      (λ r'. rw (r.2, append_assoc) (allow_seq s (g r.0 j y r'.0 y' (rw r.1 at t) (rw r'.1 at t'))))
      (cut_at x' j y' w₁' w₂' e'))
      (cut_at x j y w₁ w₂ e)

  swap_alt : {φ ψ : Past P} {i : ℕ} → Swaps φ i → Swaps ψ (i + size φ) → Swaps (alt φ ψ) i
  swap_alt f g x j y x' y' (allow_left s) (allow_left s') = allow_left (f x j y x' y' s s')
  swap_alt f g x j y x' y' (allow_left s) (allow_right t') = let p = within_at x j y s in let q = within_at x' j y' t' in absurd (omega arith)
  swap_alt f g x j y x' y' (allow_right t) (allow_left s') = let p = within_at x j y t in let q = within_at x' j y' s' in absurd (omega arith)
  swap_alt f g x j y x' y' (allow_right t) (allow_right t') = allow_right (g x j y x' y' t t')

  swap_star_right : {φ : Past P} {i : ℕ} → Swaps φ i → (x : List ℕ) (j : ℕ) (y : List ℕ) → Allows φ i (x ++ j ∷ y) → {u : List ℕ} → Allows (star φ) i u → (x' y' : List ℕ) → u ≡ x' ++ j ∷ y' → Allows (star φ) i (x ++ j ∷ y')
  swap_star_right f x j y h allow_stop x' y' d = absurd (no_end x' j y' d)
  swap_star_right f x j y h (allow_more {v = w₁} {w = w₂} s t) x' y' d =
      ⊎_elim
      (λ r. rw r.2 (rw append_assoc at (allow_more (f x j y x' r.0 h (rw r.1 at s)) t)))
      (λ r. swap_star_right f x j y h t r.0 y' r.1)
      (cut_at x' j y' w₁ w₂ (sym d))

  swap_star : {φ : Past P} {i : ℕ} → Swaps φ i → {u : List ℕ} → Allows (star φ) i u → (x : List ℕ) (j : ℕ) (y x' y' : List ℕ) → u ≡ x ++ j ∷ y → Allows (star φ) i (x' ++ j ∷ y') → Allows (star φ) i (x ++ j ∷ y')
  swap_star f allow_stop x j y x' y' d h = absurd (no_end x j y d)
  swap_star f (allow_more {v = w₁} {w = w₂} s t) x j y x' y' d h =
      ⊎_elim
      (λ r. swap_star_right f x j r.0 (rw r.1 at s) h x' y' refl)
      (λ r. rw (r.2, append_assoc) (allow_more s (swap_star f t r.0 j y x' y' r.1 h)))
      (cut_at x j y w₁ w₂ (sym d))

  pub swap : (φ : Past P) (i : ℕ) → Swaps φ i
  swap (pat p) i x j y x' y' h h' = swap_pat h h' x j y x' y' refl refl
  swap empty i x j y x' y' h h' = absurd (empty-none h x j y refl)
  swap (seq φ ψ) i x j y x' y' h h' = swap_seq (swap φ i) (swap ψ (i + size φ)) x j y x' y' h h'
  swap (alt φ ψ) i x j y x' y' h h' = swap_alt (swap φ i) (swap ψ (i + size φ)) x j y x' y' h h'
  swap (star φ) i x j y x' y' h h' = swap_star (swap φ i) h x j y x' y' refl h'
