-- Links, by which the loop test follows the climbs of all parts at once: each part has a cell that names a part some steps up from it.
-- Assumes nothing.
use Rattle.std.specs.Prelude.{ℕ, ◌*◌, ◌≤◌, ◌<◌, ◌≡◌, List, length, get_or, set, Bool, true}
use Rattle.tree.specs.Tree.{climb}
use Rattle.tree.specs.Tests.{limit}
use Rattle.tree.specs.BottomUp.{OneRoot}

-- a sheet that is not too large, with three cells for each part: its link; or its place in an order, a count and an entry
pub record Roomy (s w : List ℕ) : Type 0 where
  pub small : length s ≤ limit
  pub room : 3 * length s ≤ length w

-- a sheet that is both
pub record Rooted (s w : List ℕ) (r : ℕ) : Type 0 where
  pub one : OneRoot s r
  pub fits : Roomy s w

-- u is k steps or more up from v
pub record Up (s : List ℕ) (k v u : ℕ) : Type 0 where
  pub steps : ℕ
  pub most : k ≤ steps
  pub reaches : climb s steps v ≡ u

-- the link of each part is k steps or more up from it
pub record Linked (s w : List ℕ) (k : ℕ) : Type 0 where
  pub link : (v : ℕ) → v < length s → Up s k v (get_or w v 0)

-- the sheet and the links, each k steps or more up
pub record Links (s w : List ℕ) (r k : ℕ) : Type 0 where
  pub rooted : Rooted s w r
  pub linked : Linked s w k

-- the link of v has been replaced by its link's link
pub record Hopped (w : List ℕ) (v up : ℕ) (w' : List ℕ) : Type 0 where
  pub to : up ≡ get_or w (get_or w v 0) 0
  pub now : w' ≡ set w v up

-- every link has been, so that each is twice as long; and the answer says that all are the root
pub record Jumped (s w : List ℕ) (r : ℕ) (done : Bool) (w' : List ℕ) : Type 0 where
  pub twice : (k : ℕ) → Linked s w k → Linked s w' (2 * k)
  pub all : done ≡ true → (v : ℕ) → v < length s → get_or w' v 0 ≡ r
