-- `rules::steps::label_above` meets its contract: the bits from place j on, the lowest of them made a one, are shifted back up, and none is shifted out.
-- Assumes nothing.
use mathlib.Core.Path.{◌∙◌}
use Rattle.bits.specs.Bits.{clear_below}
use Rattle.bits.proofs.Ones.{one-above, one-above-fits}
use Rattle.tree.specs.Routes.{label_above}
use Rattle.rules.proofs.steps.label_above.Goals as goal

pub returns : goal.returns
unfolding label_above clear_below
returns c =
    let x = c.args.ix in
    let j = c.args.j in
    one-above-fits 16 x j c.requires c.ranges.ix.fits ∙ one-above x j
