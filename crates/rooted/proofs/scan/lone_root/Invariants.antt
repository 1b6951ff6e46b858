-- `rooted::scan::lone_root` meets its contract: where one part was found that names itself, and no entry too large, it is the one root.
-- Assumes nothing.
use Prim.Native.Nat.{◌<◌}
use Rattle.rooted.proofs.Surveying.{Surveyed}
use Rattle.rooted.proofs.scan.lone_root.Given as goal

abbrev pub invariant-loop-v : goal.invariant-loop-v
invariant-loop-v l = Surveyed l.parents l.v l.most l.roots l.root × (l.most < 65536)
