-- What a lent label table's LEVEL and ASCENDANT say of a node and its parent.
-- Assumes nothing.
use Rattle.std.specs.Prelude.{ℕ, ◌+◌, ◌*◌, ◌≤◌, ◌<◌, ◌≡◌, ◌≢◌, cond, List, eqb, length, get_or}
use Rattle.bits.specs.Bits.{lowest_one}
use Rattle.tree.specs.Tree.{parent, root_of}
use Rattle.tree.specs.Buffers.{label_cells}
use Rattle.tree.specs.Labels.{label_column}
use Rattle.tree.specs.Ready.{Columns}
use Rattle.tree.specs.Tests.{limit}

-- cell v of column k of a label table
abbrev pub cell_in : List ℕ → List ℕ → ℕ → ℕ → ℕ
cell_in s label k v = get_or label (k * length s + v) 0

-- column k of each node from `first` to before `end` is its parent's and `more`
pub record Follows (s label : List ℕ) (k : ℕ) (more : ℕ → ℕ) (first end : ℕ) : Type 0 where
  pub step : (v : ℕ) → first ≤ v → v < end → cell_in s label k v ≡ cell_in s label k (parent s v) + more v

-- LEVEL, column 2, adds one
abbrev pub level_step : ℕ → ℕ
level_step v = 1

-- ASCENDANT, column 4, adds nothing where the two INLABELs are equal, and else the lowest one bit of the node's own
abbrev pub ascendant_step : List ℕ → List ℕ → ℕ → ℕ
ascendant_step s label v = cond (eqb (cell_in s label 3 v) (cell_in s label 3 (parent s v))) 0 (lowest_one (cell_in s label 3 v))

-- node v and its parent, whose cells stand in a label table of the sheet's length
pub record StepAt (s label : List ℕ) (v : ℕ) : Type 0 where
  pub small : length s ≤ limit
  pub cells : length label ≡ label_cells (length s)
  pub node : v < length s
  pub above : get_or s v 0 < length s

-- a column of this place, whose cell of the root is `top` of the number of parts, and a node's its parent's and what `more` says
pub record StepLaws (k : ℕ) (top : ℕ → ℕ) (more : List ℕ → List ℕ → ℕ → ℕ) : Type 0 where
  pub some : 0 < k
  pub column : k < 6
  pub root : {s label work : List ℕ} → Columns s label work k → top (length s) ≡ label_column s k (root_of s)
  pub rises : {s label work : List ℕ} → Columns s label work k → (v : ℕ) → v < length s → parent s v ≢ v
      → label_column s k v ≡ label_column s k (parent s v) + more s label v
  pub fits : {s label work : List ℕ} → Columns s label work k → (v : ℕ) → v < length s → label_column s k v < 65536

-- the nodes that are gone over, and a label table of the sheet's length
pub record Steps (s label : List ℕ) (first end : ℕ) : Type 0 where
  pub small : length s ≤ limit
  pub inside : (v : ℕ) → v < length s → parent s v < length s
  pub cells : length label ≡ label_cells (length s)
  pub ordered : first ≤ end
  pub most : end ≤ length s
