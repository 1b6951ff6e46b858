-- There are runs of every accepted sheet, whatever its parts are.
-- Assumes nothing.
use Prim.Native.Nat.{ℕ, ◌<◌}
use native.Mathlib.Omega.{arith}
use mathlib.Core.Path.{refl}
use mathlib.Core.List.{List, [], ◌∷◌}
use lib.Dec.{lit<}
use lib.ListN.{length}
use Rattle.tree.specs.Tests as tests
use Rattle.tree.specs.Tree.{Tree}
use Rattle.tree.specs.Lca.{Parts}
use Rattle.tree.proofs.Lcas.{each-of_two}
use Rattle.tree.proofs.Acceptance.{accepted-tree}
use Rattle.routes.proofs.Demand3.{Runs}
use Rattle.routes.proofs.RunsExist.{runs-exist}

-- something can be asked of every accepted sheet: its part 0, paired with itself, listed twice and shared out into one group
pub some_runs : (s : List ℕ) → tests.Accepted s → Runs s
some_runs s accepts =
    let tree : Tree s = (accepted-tree s accepts).0 in
    let first : 0 < length s = omega (arith, tree.root-inside) in
    let twice : Parts s (0 ∷ 0 ∷ []) = each-of_two (λ v. v < length s) first first in
    (runs-exist s accepts (0 ∷ 0 ∷ []) (lit< tt) twice refl (0 ∷ 0 ∷ []) (0 ∷ 0 ∷ []) (lit< tt) twice (λ x. (λ m. m, λ m. m)) 1 (λ i. 0)
    (record { given = λ i h. lit< tt; nonempty = λ g h. (0, lit< tt, omega arith) }) 0 0 first first).0
