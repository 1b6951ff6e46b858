-- `leaves::take::take_rest` meets its contract: the first part in the order that is not taken is taken, and the one after it was read beforehand.
-- Assumes nothing.
use Prim.Native.Nat.{ℕ, ◌+◌, ◌<◌}
use native.Mathlib.Omega.{arith}
use mathlib.Core.Path.{◌≡◌, refl, ap, ◌∙◌}
use lib.ListN.{length, get_or}
use Rattle.leaves.specs.Leaves.{Waiting}
use Rattle.leaves.proofs.Naming.{wooded-same}
use Rattle.leaves.proofs.Taken.{found_below}
use Rattle.leaves.proofs.Waits.{next-is, waiting-part}
use Rattle.leaves.proofs.take.take_rest.Goals as goal
use Rattle.leaves.proofs.take.take_rest.Goals.{In-loop-at}

-- a part waits
one-waits : (c : In-loop-at) → Waiting c.args.parents.now c.loop-at.work c.loop-at.at 1 c.loop-at.found
one-waits c =
    let l = c.loop-at.invariant in
    let wait = c.loop-at-test.true in
    record { wooded = wooded-same c.requires.0 l.0; taking = l.1; wait = omega arith }

-- it is the part at hand; there are few, and cells behind them
here : (c : In-loop-at) →
    (c.loop-at.v < length c.args.parents.now) × (c.loop-at.at + 1 < length c.loop-at.work) × (c.loop-at.at < length c.args.parents.now)
    × (c.loop-at.at < 16384)
here c =
    let l = c.loop-at in
    let f = waiting-part (one-waits c) l.at (omega arith) in
    let is = l.invariant.2 c.loop-at-test.true in
    let room = (one-waits c).wooded.room in
    let wait = c.loop-at-test.true in
    (omega arith, omega arith, omega arith, omega arith)

pub loop-at-init : goal.loop-at-init
loop-at-init c = (refl, c.requires.1, λ _. refl)

pub one-found-requires : goal.one-found-requires
one-found-requires c =
    let l = c.loop-at in (
      one-waits (goal.at.one-found-requires c).In-loop-at,
      ap (λ (x : ℕ). get_or c.args.parents.now x 0) (l.invariant.2 c.loop-at-test.true),
    )

pub loop-at-preserved : goal.loop-at-preserved
loop-at-preserved c =
    let (took, behind) = c.one-found.ensures in
    (took.cells ∙ c.loop-at.invariant.0, took.taking, next-is took behind c.loop-at-test.true c.next-v.ensures)

pub returns : goal.returns
returns c =
    let l = c.loop-at in
    let e : l.at ≡ l.found = let w = l.invariant.1.within in omega arith in
    rw e at l.invariant.1

pub offset_bounds-work-at : goal.offset_bounds-work-at
offset_bounds-work-at c =
    let few = found_below c.requires.1 c.requires.0 in
    let within = c.requires.1.within in
    let small = c.requires.0.small in
    omega arith

pub bounds-work-at : goal.bounds-work-at
bounds-work-at c =
    let few = found_below c.requires.1 c.requires.0 in
    let within = c.requires.1.within in
    let room = c.requires.0.room in
    omega arith

pub loop-at-smaller : goal.loop-at-smaller
loop-at-smaller c = let f = here (goal.at.loop-at-smaller c).In-loop-at in omega arith
