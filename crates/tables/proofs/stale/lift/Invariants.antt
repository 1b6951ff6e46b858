-- `tables::stale::lift` meets its contract: the table's rows are the sheet's own up to the row that the loop is at, and the next is compared.
-- Assumes nothing.
use Prim.Native.Nat.{◌-◌}
use lib.ListN.{length}
use Rattle.tree.specs.Ready.{Ready}
use Rattle.tables.proofs.TableRows.{LiftRows}
use Rattle.tables.proofs.stale.lift.Given as goal

abbrev pub invariant-loop-power : goal.invariant-loop-power
invariant-loop-power l =
    Ready l.parents l.work × LiftRows l.parents l.table l.at l.power

abbrev pub decreases-loop-power : goal.decreases-loop-power
decreases-loop-power l = length l.parents - l.power
