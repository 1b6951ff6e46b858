-- `leaves::take::unnamed` meets its contract: of the parts passed, those that none names are in the order.
-- Assumes nothing.
use Rattle.leaves.proofs.Naming.{Seeding}
use Rattle.leaves.proofs.take.unnamed.Given as goal

abbrev pub invariant-loop-v : goal.invariant-loop-v
invariant-loop-v l = Seeding l.parents l.work l.v l.found
