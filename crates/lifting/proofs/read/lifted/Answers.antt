-- `lifting::read::lifted` meets its contract: the cell is the sheet's own, in row k of the lift table, and a part.
-- Assumes nothing.
use Prim.Native.Nat.{◌+◌, ◌*◌, ◌≤◌, ◌<◌}
use native.Mathlib.Nat.{zero-add, suc-mul, mul-le-mul_right}
use native.Mathlib.Omega.{arith}
use lib.ListN.{length}
use Rattle.bits.specs.Bits.{log2}
use Rattle.tree.proofs.Cells.{lift-length, lift-sizes, lift-cell}
use Rattle.tree.proofs.Doubling.{lift-inside}
use Rattle.lifting.proofs.read.lifted.Goals as goal
use Rattle.lifting.proofs.read.lifted.Goals.{After-len}

-- the cell stands in the table
room : (c : After-len) → c.args.k * c.len.result + c.args.v < length c.lift.result.now
room c =
    let s = c.args.sheet.now in
    let n = length s in
    let rows : c.args.k * n ≤ log2 n * n = mul-le-mul_right n c.requires.1 in
    rw (c.len.ensures, c.lift.ensures) (omega (arith, lift-length s, lift-sizes n (log2 n), suc-mul (log2 n) n))

pub returns : goal.returns
returns c =
    let s = c.args.sheet.now in
    let p = c.requires in
    rw (c.len.ensures, c.lift.ensures)
    (record { is = rw zero-add; below = rw (lift-cell s c.args.k c.args.v p.1 p.2) (lift-inside s p.0.tree.inside c.args.k c.args.v p.2) })

pub overflow_mul-result : goal.overflow_mul-result
overflow_mul-result c = omega (arith, room c)

pub overflow_add-result : goal.overflow_add-result
overflow_add-result c = omega (arith, room c)

pub offset_bounds-lift-k : goal.offset_bounds-lift-k
offset_bounds-lift-k c = omega (arith, room c)

pub bounds-lift-k : goal.bounds-lift-k
bounds-lift-k c = room (goal.at.bounds-lift-k c).After-len
