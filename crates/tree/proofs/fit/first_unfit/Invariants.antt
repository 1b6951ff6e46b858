-- `tree::fit::first_unfit` meets its contract: the first of the buffers from here on that does not fit is that of all.
-- Assumes nothing.
use mathlib.Core.Path.{◌≡◌}
use lib.ListN.{drop}
use Rattle.tree.specs.Buffers.{first_unfit}
use Rattle.tree.proofs.fit.first_unfit.Given as goal

abbrev pub invariant-loop-fit : goal.invariant-loop-fit
invariant-loop-fit l = first_unfit (drop l.fit-index l.fits) ≡ first_unfit l.fits
