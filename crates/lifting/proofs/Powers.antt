-- How many powers of two there are to try: as many as rows of the lift table. Assumes nothing.
use Prim.Native.Nat.{ℕ, ◌≤◌}
use native.Mathlib.Omega.{arith}
use mathlib.Core.List.{List}
use lib.ListN.{length}
use Rattle.bits.specs.Bits.{log2}
use Rattle.bits.proofs.Log.{log2-le}
use Rattle.tree.specs.Nodes.{Small}

pub few-powers : {s : List ℕ} → Small s → log2 (length s) ≤ 14
few-powers {s} small = let most = small.most in log2-le (length s) 14 (omega arith)
