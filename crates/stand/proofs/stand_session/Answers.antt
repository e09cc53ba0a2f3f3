-- `stand_session` runs the calls where the sizes fit, and otherwise turns them away with nothing written.
-- Assumes nothing.
use Rattle.std.proofs.Common.{sym, ◌∙◌}
use Rattle.stand.proofs.SizeLaws.{fit_told}
use Rattle.stand.proofs.KindLaws.{session-refused, session-taken}
use Rattle.stand.proofs.stand_session.Goals as goal

pub returns-then-not-fits : goal.returns-then-not-fits
returns-then-not-fits c = rw (c.from.ensures, c.number.ensures) (session-refused _ _ _ _ _ (sym c.fits.ensures ∙ c.if-not-fits.true))

pub run-requires : goal.run-requires
run-requires c = fit_told _ _ _ _ _ (sym c.fits.ensures ∙ c.if-not-fits.false)

pub returns : goal.returns
returns c = session-taken _ _ _ _ _ _ _ _ _ (fit_told _ _ _ _ _ (sym c.fits.ensures ∙ c.if-not-fits.false)) c.run.ensures
