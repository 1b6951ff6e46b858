-- `leaves::take::take_eights` meets its contract: the place is a multiple of eight.
-- Assumes nothing.
use Prim.Native.Nat.{◌*◌, ◌/◌}
use native.Mathlib.Omega.{arith}
use mathlib.Core.Path.{◌≡◌, refl, ◌∙◌}
use Rattle.leaves.specs.Leaves.{Waiting}
use Rattle.leaves.proofs.Naming.{wooded-same}
use Rattle.leaves.proofs.Taken.{found_below}
use Rattle.leaves.proofs.Waits.{waiting-part}
use Rattle.leaves.proofs.take.take_eights.Goals as goal
use Rattle.leaves.proofs.take.take_eights.Goals.{In-loop-at}

-- eight parts wait
eight-wait : (c : In-loop-at) → Waiting c.args.parents.now c.loop-at.work c.loop-at.at 8 c.loop-at.found
eight-wait c =
    let l = c.loop-at.invariant in
    record { wooded = wooded-same c.requires.0 l.1; taking = l.2; wait = c.loop-at-test.true }

pub loop-at-init : goal.loop-at-init
loop-at-init c = (refl, refl, c.requires.1)

pub eight-found-requires : goal.eight-found-requires
eight-found-requires c = eight-wait (goal.at.eight-found-requires c).In-loop-at

pub loop-at-preserved : goal.loop-at-preserved
loop-at-preserved c =
    let l = c.loop-at.invariant in
    let took = c.eight-found.ensures in
    (omega (arith, l.0), took.cells ∙ l.1, took.taking)

pub returns : goal.returns
returns c =
    let l = c.loop-at in
    let e : l.at ≡ l.found / 8 * 8 = let within = l.invariant.2.within in let last = c.loop-at-test.false in omega (arith, l.invariant.0) in
    rw e at l.invariant.2

pub overflow_add-at : goal.overflow_add-at
overflow_add-at c =
    let l = c.loop-at.invariant in
    let g = wooded-same c.requires.0 l.1 in
    let few = found_below l.2 g in
    let within = l.2.within in
    omega arith

pub loop-at-smaller : goal.loop-at-smaller
loop-at-smaller c =
    let f = waiting-part (eight-wait (goal.at.loop-at-smaller c).In-loop-at) c.loop-at.at (omega arith) in
    let wait = c.loop-at-test.true in
    omega arith
