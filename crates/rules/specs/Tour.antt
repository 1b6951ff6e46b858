-- What two blocks of the tour table show, and where the tour comes back to a carrier from its branch.
-- Assumes nothing.
use Rattle.std.specs.Prelude.{ℕ, ◌+◌, ◌-◌, ◌*◌, ◌≤◌, ◌<◌, ◌≡◌, ◌≢◌, List, length, get_or}
use Rattle.tree.specs.Tree.{Ancestor, level}
use Rattle.tree.specs.Buffers.{visits}
use Rattle.tree.specs.Preorder.{size, tour, first_visit}
use Rattle.tree.specs.Tour.{sparse}
use Rattle.tree.specs.Routes.{block_log, last_block}
use Rattle.tree.specs.Branch.{Branch}
use Rattle.tree.specs.Nodes.{Small}
use Rattle.rules.specs.declared.blocks.Covered.{Covered}

-- of the positions i to j: "the two positions that their cells give"
pub record Covers (s : List ℕ) (i j : ℕ) (r : Covered) : Type 0 where
  pub left : r.left ≡ sparse s (block_log i j) i
  pub right : r.right ≡ sparse s (block_log i j) (last_block i j)
  pub left-inside : r.left < visits (length s)
  pub right-inside : r.right < visits (length s)

-- x is a part that another part c carries
pub record Below (s : List ℕ) (c x : ℕ) : Type 0 where
  pub small : Small s
  pub node : x < length s
  pub carries : Ancestor s c x
  pub other : x ≢ c

-- the position of a node's last visit
abbrev pub last_visit : List ℕ → ℕ → ℕ
last_visit s v = first_visit s v + 2 * size s v - 2

-- at p the tour comes back to c from its branch towards x: the first visit of c after x's first
pub record Back (s : List ℕ) (c x p : ℕ) : Type 0 where
  pub after : first_visit s x < p
  pub upto : p ≤ last_visit s c
  pub here : get_or (tour s) p 0 ≡ c
  pub deeper : (i : ℕ) → first_visit s x ≤ i → i < p → level s c < level s (get_or (tour s) i 0)
  pub branch : Branch s c x (get_or (tour s) (p - 1) 0)
