-- `lifting::raise::raised` meets its contract: as high as both stay different, and one row more.
-- Assumes nothing.
use Prim.Native.Nat.{suc, ◌<◌}
use native.Mathlib.Omega.{arith}
use lib.ListN.{length}
use Rattle.bits.specs.Bits.{log2}
use Rattle.tree.specs.Tables.{own}
use Rattle.tree.specs.Trail.{stays_apart, raise_both}
use Rattle.tree.proofs.Falling.{falling-most}
use Rattle.lifting.specs.Stored.{row}
use Rattle.lifting.proofs.Raising.{raised-gives}
use Rattle.lifting.proofs.raise.raised.Goals as goal
use Rattle.lifting.proofs.raise.raised.Goals.{After-falling-low}

-- there is room for one row more
room : (c : After-falling-low) → c.falling-low.result.lifts < 32
room c =
    let t = own c.args.sheet.now in
    let most = falling-most (stays_apart t) (raise_both t) (suc (log2 (length c.args.sheet.now))) (row c.args.level.x c.args.level.y) in
    omega (arith, c.requires.2, c.falling-low.ensures.count)

pub store-requires : goal.store-requires
store-requires c = omega (arith, room (goal.at.store-requires c).After-falling-low)

pub returns : goal.returns
returns c =
    let up = c.raise_both-up.ensures in
    rw c.store.ensures.raised (raised-gives c.falling-low.ensures (rw c.pair.ensures at up.0) up.1 c.store.ensures.cells)
