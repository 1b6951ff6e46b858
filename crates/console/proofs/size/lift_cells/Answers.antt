-- `console::size::lift_cells` meets its contract: the most parts bound its product.
-- Assumes nothing.
use mathlib.Core.Path.{refl}
use Rattle.console.proofs.Sizes.{lift-small}
use Rattle.console.proofs.size.lift_cells.Goals as goal

pub returns : goal.returns
returns c = rw c.log2.ensures.is (refl, lift-small c.args.n c.requires)
