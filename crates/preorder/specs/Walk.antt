-- The walk that numbers the nodes: the links that it follows, and what it leaves in work. The cells of work are four columns of n:
-- each node's lowest child, its next sibling, its PREORDER, and the node after all that it carries, in whose place SIZE comes at last.
-- Assumes nothing.
use Rattle.std.specs.Prelude.{ℕ, suc, ◌+◌, ◌-◌, ◌*◌, ◌<◌, ◌≡◌, cond, List, ltb, length, get_or}
use Rattle.tree.specs.Scan.{least_from}
use Rattle.tree.specs.Tree.{parent, is_root, root_of}
use Rattle.tree.specs.Preorder.{is_child, preorder, preorder_number, size}
use Rattle.tree.specs.Ready.{Ready}

-- the lowest child of v from i on; n where there is none
abbrev pub lowest_child : List ℕ → ℕ → ℕ → ℕ
lowest_child s v i = least_from (is_child s v) i (length s - i)

-- the next child of v's parent; n where there is none
abbrev pub next_sibling : List ℕ → ℕ → ℕ
next_sibling s v = cond (is_root s v) (length s) (lowest_child s (parent s v) (suc v))

-- the first two columns of work are these
pub record Links (s work : List ℕ) : Type 0 where
  pub child : (v : ℕ) → v < length s → get_or work v 0 ≡ lowest_child s v 0
  pub next : (v : ℕ) → v < length s → get_or work (length s + v) 0 ≡ next_sibling s v

-- what the walk starts from
pub record Walks (s : List ℕ) (root : ℕ) (work : List ℕ) : Type 0 where
  pub ready : Ready s work
  pub is : root ≡ root_of s
  pub links : Links s work

-- a, or b where a is none, n or more
abbrev pub first_of : ℕ → ℕ → ℕ → ℕ
first_of n a b = cond (ltb a n) a b

-- the node that k nodes stand before in preorder; n where there is none
abbrev pub node_at : List ℕ → ℕ → ℕ
node_at s k = get_or (preorder s) k (length s)

-- the node after all that v carries; n where there is none
abbrev pub node_after : List ℕ → ℕ → ℕ
node_after s v = node_at s (preorder_number s v - 1 + size s v)

-- the third column of work is PREORDER, and the last holds the node after each
pub record Numbered (s work : List ℕ) : Type 0 where
  pub number : (v : ℕ) → v < length s → get_or work (2 * length s + v) 0 ≡ preorder_number s v
  pub after : (v : ℕ) → v < length s → get_or work (3 * length s + v) 0 ≡ node_after s v

-- the number of a node, in the third column; of none, the number after the last
abbrev pub end_of : List ℕ → ℕ → ℕ → ℕ
end_of work n v = cond (ltb v n) (get_or work (2 * n + v) 0) (n + 1)
