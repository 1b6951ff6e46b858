-- `console::size::tour_cells` meets its contract: the most parts bound its product and its sum.
-- Assumes nothing.
use mathlib.Core.Path.{refl}
use Rattle.console.proofs.Sizes.{tour-small}
use Rattle.console.proofs.size.tour_cells.Goals as goal

pub returns : goal.returns
returns c = rw c.log2.ensures.is (refl, tour-small c.args.n c.requires.1)
