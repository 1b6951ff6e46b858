-- `rows::lifts::twice_holds` meets its contract: where no bit is gathered, the next row's first v cells are the sheet's own.
-- Assumes nothing.
use Prim.Native.Nat.{◌+◌}
use mathlib.Core.Path.{◌≡◌}
use lib.ListN.{length}
use Rattle.tree.specs.Lifts.{lift_table}
use Rattle.tree.specs.Sections.{Same}
use Rattle.rows.proofs.lifts.twice_holds.Given as goal

abbrev pub invariant-loop-v : goal.invariant-loop-v
invariant-loop-v l =
    (l.bits ≡ 0 → Same l.lift (l.at + length l.parents) (lift_table l.parents) (l.at + length l.parents) l.v)
