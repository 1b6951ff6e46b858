-- The rows of the lift table: row 0 is the sheet, each later row is two jumps of the row before it, and every cell is a node.
-- Assumes nothing.
use Prim.Native.Nat.{ℕ, suc, ◌<◌, ◌^◌}
use native.Mathlib.Nat.{pow-suc}
use native.Mathlib.Omega.{arith}
use mathlib.Core.Path.{◌≡◌}
use mathlib.Core.List.{List}
use lib.ListN.{length}
use Rattle.tree.specs.Tree.{parent}
use Rattle.tree.specs.Lifts.{lift}
use Rattle.tree.proofs.Climbs.{Inside, climb-one, climb-split, climb-inside}

-- row 0 holds the parents
pub lift-zero : (s : List ℕ) (v : ℕ) → lift s 0 v ≡ parent s v
unfolding lift
lift-zero s v = climb-one s v

-- a jump of row k + 1 is two of row k
pub lift-suc : (s : List ℕ) (k v : ℕ) → lift s (suc k) v ≡ lift s k (lift s k v)
unfolding lift
lift-suc s k v = climb-split s (2 ^ k) (2 ^ k) (2 ^ suc k) v (omega (arith, pow-suc 2 k))

-- each cell is a node
pub lift-inside : (s : List ℕ) → Inside s → (k v : ℕ) → v < length s → lift s k v < length s
unfolding lift
lift-inside s inside k v h = climb-inside s inside (2 ^ k) v h
