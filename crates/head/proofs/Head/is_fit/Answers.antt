-- `Head::is_fit` meets its contract. Assumes nothing.
use Rattle.std.proofs.Common.{◌∙◌}
use Rattle.head.proofs.Fits.{fit_unbounded, fit_used}
use Rattle.head.proofs.Head.is_fit.Goals as goal

pub returns-in-Some : goal.returns-in-Some
returns-in-Some c = c.fits.ensures ∙ fit_used _ _ _ _ _ _ c.in-Some.ensures

pub returns-in-None : goal.returns-in-None
returns-in-None c = fit_unbounded _ _ _ _ _ c.in-None.ensures
