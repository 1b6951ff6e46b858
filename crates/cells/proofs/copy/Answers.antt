-- `cells::copy` meets its contract: with i cells copied, the two stretches of i cells are the same.
-- Assumes nothing.
use native.Mathlib.Omega.{arith}
use Rattle.cells.proofs.Stretches.{copied_none, copied_more}
use Rattle.cells.proofs.copy.Goals as goal

pub loop-i-init : goal.loop-i-init
loop-i-init c = copied_none _ _ _ _

pub loop-i-preserved : goal.loop-i-preserved
loop-i-preserved c = copied_more (omega (arith, c.requires)) c.loop-i.invariant
