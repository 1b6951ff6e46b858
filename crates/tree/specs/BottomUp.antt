-- Bottom-up orders: each part but the root, after all that are bolted into it. What sums over all that a part carries are made along.
-- Assumes nothing.
use Rattle.std.specs.Prelude.{ℕ, suc, ◌+◌, ◌*◌, ◌<◌, ◌≡◌, ◌≢◌, List, length, get_or}
use Rattle.tree.specs.Scan.{position}
use Rattle.tree.specs.Tree.{parent}
use Rattle.tree.specs.Preorder.{Before}

-- a sheet that has passed tests 4 to 6: its entries are parts, and r alone names itself
pub record OneRoot (s : List ℕ) (r : ℕ) : Type 0 where
  pub inside : (v : ℕ) → v < length s → parent s v < length s
  pub part : r < length s
  pub itself : parent s r ≡ r
  pub only : (v : ℕ) → v < length s → parent s v ≡ v → v ≡ r

-- the first n − 1 cells of o are such an order: they hold parts that do not name themselves, each such part once, and
pub record BottomUp (s o : List ℕ) : Type 0 where
  pub part : (i : ℕ) → suc i < length s → get_or o i 0 < length s
  pub other : (i : ℕ) → suc i < length s → parent s (get_or o i 0) ≢ get_or o i 0
  pub once : (i : ℕ) → suc i < length s → position o (get_or o i 0) ≡ i
  pub listed : (v : ℕ) → v < length s → parent s v ≢ v → suc (position o v) < length s
  -- a part stands before the one into which it is bolted
  pub child-first : (c : ℕ) → c < length s → parent s c ≢ c → parent s (parent s c) ≢ parent s c → Before o c (parent s c)

-- the sheet's edges, from the leaves up: such an order in the first cells of w, and in the third n cells beside each part its entry
pub record Edges (s w : List ℕ) : Type 0 where
  pub order : BottomUp s w
  pub entry : (i : ℕ) → suc i < length s → get_or w (2 * length s + i) 0 ≡ parent s (get_or w i 0)
