-- `run_round` goes one of the four ways, each by what the functions called promise.
-- Assumes nothing.
use Rattle.std.proofs.Common.{refl, sym, ◌∙◌, length-take-le}
use Rattle.round.proofs.RoundLaws.{used_within, not_accepted, no_batch, rewritten_after}
use Rattle.round.proofs.rounds.run_round.Goals as goal

pub slice_bounds-restore-end-2 : goal.slice_bounds-restore-end-2
slice_bounds-restore-end-2 c = sym (length-take-le _ _ (used_within _ _ (sym c.room_fits.ensures ∙ c.if-not-room_fits.false)))

pub returns-in_err-restore : goal.returns-in_err-restore
returns-in_err-restore c =
    let fits = sym c.room_fits.ensures ∙ c.if-not-room_fits.false in
    not_accepted _ _ _ _ fits _ _ c.in_err-restore.ensures _ refl _ c.from_residual.ensures.1

pub returns-in_err-handle_batch : goal.returns-in_err-handle_batch
returns-in_err-handle_batch c =
    let fits = sym c.room_fits.ensures ∙ c.if-not-room_fits.false in
    no_batch _ _ _ _ fits _ _ c.in_ok-restore.ensures refl _ _ c.in_err-handle_batch.ensures _ refl _ c.from_residual-in_err-handle_batch.ensures.1

pub returns : goal.returns
returns c =
    let fits = sym c.room_fits.ensures ∙ c.if-not-room_fits.false in
    rewritten_after _ _ _ _ fits _ _ c.in_ok-restore.ensures refl _ _ c.in_ok-handle_batch.ensures refl _ _ c.keep.ensures
