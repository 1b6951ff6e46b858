-- `lifting::raise::levelled` meets its contract: the deeper part falls, and there is room for a row of each power.
-- Assumes nothing.
use native.Mathlib.Omega.{arith}
use Rattle.tree.specs.Trail.{levelled}
use Rattle.lifting.proofs.Powers.{few-powers}
use Rattle.lifting.proofs.raise.levelled.Goals as goal

pub falling-requires : goal.falling-requires
falling-requires c = let few = few-powers c.requires.0.small in (c.requires.0, c.requires.1, omega arith)

pub returns : goal.returns
unfolding levelled
returns c = c.falling.ensures
