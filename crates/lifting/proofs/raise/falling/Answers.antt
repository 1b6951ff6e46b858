-- `lifting::raise::falling` meets its contract: the powers below 2^k are left to try.
-- Assumes nothing.
use Prim.Native.Nat.{◌<◌}
use native.Mathlib.Omega.{arith}
use Rattle.lifting.proofs.Raising.{trying-pass, trying-skip, trying-end}
use Rattle.lifting.proofs.raise.falling.Goals as goal

pub loop-k-preserved-in-Some : goal.loop-k-preserved-in-Some
loop-k-preserved-in-Some g c =
    let some : 0 < c.loop-k.k = omega arith in
    let (passes, is, pair) = c.in-Some.ensures in
    rw c.store-at.ensures.raised
    (trying-pass c.loop-k.invariant some (rw c.pair.ensures at passes) (rw c.pair.ensures at is) pair c.store-at.ensures.cells)

pub loop-k-preserved : goal.loop-k-preserved
loop-k-preserved g c =
    let some : 0 < c.loop-k.k = omega arith in
    let fails = c.in_default.ensures in
    trying-skip c.loop-k.invariant some (rw c.pair.ensures at fails)

pub returns : goal.returns
returns g c = trying-end c.loop-k.invariant c.loop-k-test.false
