-- A pair with the difference of its levels.
-- Assumes nothing.
use Rattle.std.specs.Prelude.{ℕ, ◌+◌, ◌≡◌, List, [], ◌∷◌}
use Rattle.tree.specs.Tree.{level}
use Rattle.tree.specs.Lca.{lca}
use Rattle.tree.specs.Tables.{own}
use Rattle.tree.specs.Nodes.{Pair}
use Rattle.tree.specs.Trail.{gap}
use Rattle.lifting.specs.declared.Gap.{Gap}
use Rattle.lifting.specs.Stored.{row}

-- the pair x and y of a sheet s, the deeper part first: the steps make up the difference, and the carrier is the same
pub record DeeperFirst (s : List ℕ) (x y : ℕ) (r : Gap) : Type 0 where
  pub pair : Pair s r.deep r.other
  pub difference : r.steps ≡ gap (own s) (row x y)
  pub deeper : level s r.deep ≡ r.steps + level s r.other
  pub carrier : lca s (r.deep ∷ r.other ∷ []) ≡ lca s (x ∷ y ∷ [])
