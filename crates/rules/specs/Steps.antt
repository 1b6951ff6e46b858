-- What step 3 of the label rule begins from.
-- Assumes nothing.
use Rattle.std.specs.Prelude.{ℕ, ◌<◌, ◌≡◌, List, length}
use Rattle.bits.specs.Bits.{rightmost_zeros}
use Rattle.tree.specs.Tree.{Ancestor}
use Rattle.tree.specs.Labels.{inlabel}
use Rattle.tree.specs.Nodes.{Small}

-- a node v and one that carries it, with that one's INLABEL iz and the place j of the lowest one bit of iz
pub record Toward (s : List ℕ) (v j iz : ℕ) : Type 0 where
  pub small : Small s
  pub node : v < length s
  pub top : ℕ
  pub top-node : top < length s
  pub carries : Ancestor s top v
  pub label_is : iz ≡ inlabel s top
  pub place_is : j ≡ rightmost_zeros (inlabel s top)
