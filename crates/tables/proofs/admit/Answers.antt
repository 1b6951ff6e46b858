-- `tables::admit` meets its contract: refusals 1 to 3 come before work is touched; else tests 4 to 7 decide, and work is cleared.
-- Assumes nothing.
use native.Mathlib.Omega.{arith}
use mathlib.Core.Path.{ap, ◌∙◌}
use lib.Dec.{lit≤}
use lib.ListN.{replicate}
use Rattle.tree.proofs.Verdicts.{handed_on}
use Rattle.tables.proofs.Lending.{sizes-refuse, sizes-hold, tree-tested}
use Rattle.tables.proofs.admit.Goals as goal

pub returns-in_err-test_sizes : goal.returns-in_err-test_sizes
returns-in_err-test_sizes c =
    let a = c.args in
    let no = c.in_err-test_sizes.was in
    sizes-refuse a.parents.now a.unfit c.test_sizes.ensures a.work.now no (handed_on c.from_residual.result c.from_residual.ensures.1)

pub test_tree-r-requires : goal.test_tree-r-requires
test_tree-r-requires c =
    let (some, small, fits) = sizes-hold c.args.parents.now c.args.unfit c.test_sizes.ensures c.in_ok-test_sizes.was in
    let room = c.requires some small fits in
    let same = c.clear.auto.buffer in
    (record { small = small; room = omega arith }, lit≤ tt)

pub returns : goal.returns
returns c =
    let a = c.args in
    let same = c.test_tree-r.auto.work ∙ c.clear.auto.buffer in
    tree-tested a.parents.now a.unfit c.test_sizes.ensures c.in_ok-test_sizes.was c.test_tree-r.ensures
    (c.clear-2.ensures ∙ ap (λ k. replicate k 0) same)
