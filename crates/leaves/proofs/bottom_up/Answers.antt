-- `leaves::bottom_up` meets its contract: the leaves taken off are all parts but the root exactly on a tree; where no part names a later one, falling numbers
-- serve.
-- Assumes nothing.
use native.Mathlib.Omega.{arith}
use Prim.Native.Nat.{◌+◌}
use mathlib.Core.Bool.{true≢false}
use mathlib.Core.Path.{◌≡◌}
use borrow.Author.Tests.{eqb-true, eqb-false}
use lib.ListN.{length}
use Rattle.leaves.proofs.Naming.{wooded-same}
use Rattle.leaves.proofs.Taken.{found_below}
use Rattle.leaves.proofs.Ending.{taken-edges, taken-all, falling-edges}
use Rattle.leaves.proofs.bottom_up.Goals as goal

pub returns-then-earlier : goal.returns-then-earlier
returns-then-earlier c =
    let fall = c.fall in
    let g = wooded-same c.requires fall.auto.work in
    let all = c.earlier.ensures c.if-earlier.true in
    (λ _. falling-edges g fall.ensures all, λ e. absurd (true≢false e))

pub returns : goal.returns
returns c =
    let leaves = c.leaves-found in
    let g = wooded-same c.requires leaves.auto.work in
    let l = leaves.ensures in (
      λ e. taken-edges g l (let all : leaves.result + 1 ≡ length c.args.parents.now = eqb-true _ _ e in omega arith),
      λ e t. eqb-false (leaves.result + 1) (length c.args.parents.now) e (let all = taken-all g l t in omega arith),
    )

pub overflow_add-result : goal.overflow_add-result
overflow_add-result c =
    let leaves = c.leaves-found in
    let g = wooded-same c.requires leaves.auto.work in
    let few = found_below leaves.ensures g in
    omega arith
