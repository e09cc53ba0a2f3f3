-- `row_of` meets its contract: of the code's bytes it takes as many as the row has room for.
-- Assumes nothing.
use Rattle.std.proofs.Common.{rules, ◌≡◌, sym, arith, length, length-take-le}
use Rattle.follow.proofs.rows.row_of.Goals as goal

pub slice_bounds-copy_from_slice-end : goal.slice_bounds-copy_from_slice-end
slice_bounds-copy_from_slice-end c =
    let z : length c.args.code ≡ 126 = search rules in
    let h = length-take-le 125 c.args.code (omega (arith, z)) in
    omega (arith, h)

pub copy_from_slice-requires : goal.copy_from_slice-requires
copy_from_slice-requires c = let z : length c.args.code ≡ 126 = search rules in sym (length-take-le _ _ (omega (arith, z)))
