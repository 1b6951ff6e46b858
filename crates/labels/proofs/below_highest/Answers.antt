-- `labels::below_highest` meets its contract: the highest one bit is copied down to every place.
-- Assumes nothing.
use Rattle.labels.proofs.Smearing.{smeared}
use Rattle.labels.proofs.below_highest.Goals as goal

pub returns : goal.returns
returns c = smeared c.args.x c.ranges.x.fits
