-- What a lent label table's PREORDER and SIZE say of a node, its parent and its siblings.
-- Assumes nothing.
use Rattle.std.specs.Prelude.{ℕ, ◌+◌, ◌≤◌, ◌<◌, ◌≡◌, ◌≢◌, List, length, get_or}
use Rattle.tree.specs.Tree.{parent}
use Rattle.tree.specs.Preorder.{child_sum}
use Rattle.tree.specs.Buffers.{label_cells}
use Rattle.tree.specs.Ready.{Ready}

-- the SIZE that a label table has for a node
abbrev pub size_in : List ℕ → List ℕ → ℕ → ℕ
size_in s label v = get_or label (length s + v) 0

-- one more than the sum of these over the children of p below i
abbrev pub sum_in : List ℕ → List ℕ → ℕ → ℕ → ℕ
sum_in s label p i = 1 + child_sum s p (size_in s label) i

-- the first n cells of work hold these sums
pub record Sums (s label work : List ℕ) (i : ℕ) : Type 0 where
  pub sum : (p : ℕ) → p < length s → get_or work p 0 ≡ sum_in s label p i

-- the PREORDER of each node from `first` to before `end` is its parent's and the sum over its lower siblings
pub record Numbered (s label : List ℕ) (first end : ℕ) : Type 0 where
  pub number : (v : ℕ) → first ≤ v → v < end → get_or label v 0 ≡ get_or label (parent s v) 0 + sum_in s label (parent s v) v

-- what the sums are made from: an accepted sheet, a label table of its length, and nodes that are not the root
pub record Adds (s label : List ℕ) (first end : ℕ) (work : List ℕ) : Type 0 where
  pub ready : Ready s work
  pub cells : length label ≡ label_cells (length s)
  pub ordered : first ≤ end
  pub most : end ≤ length s
  pub child : (v : ℕ) → first ≤ v → v < end → parent s v ≢ v
  pub sums : Sums s label work first
