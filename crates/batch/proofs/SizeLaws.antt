-- Which lengths make a batch, test by test.
-- Assumes nothing.
use Rattle.std.proofs.Common.{◌≡◌, true, ℕ, ◌*◌, ◌/◌, ◌%◌, eqb, leb, eqb-true}
use Rattle.common.proofs.Bools.{and_left, and_right}
use Rattle.book.specs.Batches.{sizes_fit}

-- a batch has whole records
pub whole-records : (n m : ℕ) → sizes_fit n m ≡ true → n % 128 ≡ 0
unfolding sizes_fit
whole-records n m e = eqb-true (n % 128) 0 (and_left (eqb (n % 128) 0) _ e)

-- and a reply to each
pub replies_for_each : (n m : ℕ) → sizes_fit n m ≡ true → m ≡ n / 128 * 50
unfolding sizes_fit
replies_for_each n m e =
    eqb-true m (n / 128 * 50) (and_right (leb (n / 128) 512) _ (and_right (eqb (n % 128) 0) _ e))
