-- `tree::fit::first_unfit` meets its contract: the first of the buffers from here on that does not fit is that of all.
-- Assumes nothing.
use mathlib.Core.Path.{refl, sym, ap, ◌∙◌}
use Rattle.tree.specs.Buffers.{first_unfit}
use Rattle.tree.proofs.Fits.{unfit-at, unfit-after, unfit-none}
use Rattle.tree.proofs.fit.first_unfit.Goals as goal

pub loop-fit-init : goal.loop-fit-init
loop-fit-init c = refl

pub returns-then-not-fit : goal.returns-then-not-fit
returns-then-not-fit c = unfit-at c.args.fits.now c.loop-fit.fit-index c.loop-fit-test.true c.loop-fit.invariant c.if-not-fit.true

pub loop-fit-preserved : goal.loop-fit-preserved
loop-fit-preserved c = unfit-after c.args.fits.now c.loop-fit.fit-index c.loop-fit-test.true c.loop-fit.invariant c.if-not-fit.false

pub returns : goal.returns
returns c = unfit-none c.args.fits.now c.loop-fit.fit-index c.loop-fit-test.false c.loop-fit.invariant
