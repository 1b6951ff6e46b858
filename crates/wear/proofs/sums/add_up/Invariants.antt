-- `wear::sums::add_up` meets its contract: each part's total is whole when it is added to its entry's.
-- Assumes nothing.
use Prim.Native.Nat.{◌-◌}
use lib.ListN.{length}
use Rattle.wear.proofs.Climbing.{Adding}
use Rattle.wear.proofs.sums.add_up.Given as goal

abbrev pub invariant-loop-i : goal.invariant-loop-i
invariant-loop-i l = Adding l.parents l.edges l.initial.totals l.totals l.i
