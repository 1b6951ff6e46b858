-- `cells::same` meets its contract: where no bit is gathered, the i cells passed are the same.
-- Assumes nothing.
use native.Mathlib.Numerals.{add-one}
use Rattle.tree.proofs.Differences.{same_none, same_more}
use Rattle.cells.proofs.Stretches.{no_bits}
use Rattle.cells.proofs.same.Goals as goal

pub loop-i-init : goal.loop-i-init
loop-i-init c = λ _. same_none _ _ _ _

pub loop-i-preserved : goal.loop-i-preserved
loop-i-preserved c = λ z. let none = no_bits _ _ _ z in rw add-one (same_more (c.loop-i.invariant none.0) none.1)
