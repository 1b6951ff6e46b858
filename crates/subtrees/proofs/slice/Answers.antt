-- `subtrees::slice` meets its contract: the cells that were located, where they lie.
-- Assumes nothing.
use native.Mathlib.Omega.{arith}
use Prim.Native.Nat.{◌+◌, ◌-◌}
use mathlib.Core.Path.{◌≡◌, refl, ap}
use Rattle.tree.specs.Verdict.{start_of, count_of}
use Rattle.subtrees.proofs.slice.Goals as goal
use Rattle.subtrees.proofs.slice.Goals.{In-Ok}

-- where the stretch that was found begins, and how many cells it has
start_is : (c : In-Ok) → start_of c.args.found ≡ c.in-Ok.at.start
start_is c = ap start_of c.in-Ok.is

count-is : (c : In-Ok) → count_of c.args.found ≡ c.in-Ok.at.count
count-is c = ap count_of c.in-Ok.is

pub returns-in-Ok : goal.returns-in-Ok
returns-in-Ok c =
    let a = start_is (goal.at.returns-in-Ok c).In-Ok in
    let b = count-is (goal.at.returns-in-Ok c).In-Ok in
    let start = c.in-Ok.at.start in
    let count = c.in-Ok.at.count in
    let same : start + count - start ≡ count = omega arith in
    record { cells = rw (a, b, same) refl; block = refl; offset = omega arith }

pub returns-in-Err : goal.returns-in-Err
returns-in-Err c =
    let none : count_of c.args.found ≡ 0 = ap count_of c.in-Err.is in
    let first : start_of c.args.found ≡ 0 = ap start_of c.in-Err.is in
    record { cells = rw none refl; block = refl; offset = omega arith }
