-- When a batch is taken, exactly, and what it is then: of any monitor.
-- Assumes nothing.
use Rattle.std.proofs.Common.{◌≡◌, refl, ap, subst, Bool, true, false, ◌↔◌, List, ℕ, ◌/◌, arith, length}
use Rattle.common.proofs.Bools.{not-true}
use Rattle.follow.specs.declared.state.State.{State}
use Rattle.book.specs.Decide.{Answer}
use Rattle.book.specs.Batches.{BatchOf, batch_fits, calls_in, buffers}
use Rattle.book.proofs.Batches.{fits_exactly}
use Rattle.monitor.specs.Sessions.{Session}
use Rattle.monitor.specs.Handled.{Handled}
use Rattle.batch.specs.Handled.{BatchedAs}

module _ (m m' : State) (s b : List ℕ) (a : Answer) (h : BatchedAs m s b a m') where
  -- buffers of no batch: 11, the reply buffer as lent, the same monitor
  steady : ((n : ℕ) → BatchOf n s b → ⊥) → (a ≡ record { number = 11; buffer = b }) × (m' ≡ m)
  steady no-batch =
      let k = h.refused (not-true (batch_fits s b) (λ e. let w = (fits_exactly s b).0 e in no-batch w.0 w.1)) in
      let number = ap (λ (r : Handled). r.number) k.is in
      let buffer = k.buffer in
      ((λ i. record { number = number i; buffer = buffer i }), ap (λ (r : Handled). r.monitor) k.is)

  taken : (n : ℕ) → BatchOf n s b → a.number ≡ 0
  taken n w = (h.taken ((fits_exactly s b).1 (n, w))).number

  -- The number is 11 exactly where the buffers are those of no batch.
  pub eleven_exactly : (a.number ≡ 11) ↔ ((n : ℕ) → BatchOf n s b → ⊥)
  eleven_exactly = (λ e n w. let z = taken n w in absurd (omega (arith, e, z)), λ k. ap (λ (x : Answer). x.number) (steady k).0)

  -- It is 0 exactly where they are those of n records and n replies, n from 0 to 512.
  pub zero_exactly : (a.number ≡ 0) ↔ ((n : ℕ) × BatchOf n s b)
  zero_exactly = (back, λ w. taken w.0 w.1)
    where
      go : (q : Bool) → batch_fits s b ≡ q → a.number ≡ 0 → (n : ℕ) × BatchOf n s b
      go true e z = (fits_exactly s b).0 e
      go false e z = let k = ap (λ (r : Handled). r.number) (h.refused e).is in absurd (omega (arith, z, k))

      back : a.number ≡ 0 → (n : ℕ) × BatchOf n s b
      back = go (batch_fits s b) refl

  -- A number other than 0 is 11; the reply buffer is as lent, and the monitor is the same.
  pub refusal-steady : (a.number ≡ 0 → ⊥) → (a ≡ record { number = 11; buffer = b }) × (m' ≡ m)
  refusal-steady k = steady (λ n w. k (taken n w))

  -- A batch of n records is a run of n single calls, in the same order.
  pub batch_is_calls : (n : ℕ) → BatchOf n s b → (xs : List Answer) × Session m (calls_in n s b) xs m' × (a ≡ record { number = 0; buffer = buffers xs })
  batch_is_calls n w =
      let k = h.taken ((fits_exactly s b).1 (n, w)) in
      let number = k.number in
      let replies = k.replies in
      let count : length s / 128 ≡ n = omega (arith, w.records) in
      (k.answers, subst (λ (i : ℕ). Session m (calls_in i s b) k.answers m') count k.session, (λ i. record { number = number i; buffer = replies i }))
