-- Keeping hands back exactly what C-12 says.
-- Assumes nothing.
use Rattle.std.proofs.Common.{◌≡◌, refl, subst, Bool, true, false, cond, ◌↔◌, List, ◌++◌, ℕ, ◌*◌, ◌/◌, arith, leb, length, drop, leb-true, leb-false, le-leb}
use Rattle.std.proofs.lemmas.Bool.{lt-leb}
use Rattle.common.specs.Limits.{record_size}
use Rattle.book.specs.Operations.{Result, kept, keep_fits, kept_in}
use Rattle.book.specs.KeptRows.{KeptRow, too_short, written}

-- of an image of whole records
module _ (image lent : List ℕ) (n : ℕ) (whole : length image ≡ n * record_size) where
  pub kept_row : KeptRow image lent (kept_in image lent)
  unfolding kept_in keep_fits
  kept_row = go (leb (length image) (length lent)) refl
    where
      count : length image / record_size ≡ n
      count = omega (arith, whole)

      go : (q : Bool) → leb (length image) (length lent) ≡ q → KeptRow image lent (cond q (kept 0 (length image / record_size) (image ++ drop (length image) lent)) (kept 13 0 lent))
      go true e = written (length image / record_size) (drop (length image) lent) (omega (arith, whole, count)) (leb-true (length image) (length lent) e) refl
      go false e = too_short (leb-false (length image) (length lent) e)

  -- the row leaves no other result
  row_kept : (r : Result) → KeptRow image lent r → kept_in image lent ≡ r
  unfolding kept_in keep_fits
  row_kept r (too_short h) = rw (lt-leb (length image) (length lent) h) refl
  row_kept r (written k rest e h d) =
      let c : length image / record_size ≡ k = omega (arith, e) in
      rw (le-leb (length image) (length lent) h, c, d) refl

  pub kept_exactly : (r : Result) → (kept_in image lent ≡ r) ↔ KeptRow image lent r
  kept_exactly r = (λ e. subst (KeptRow image lent) e kept_row, row_kept r)
