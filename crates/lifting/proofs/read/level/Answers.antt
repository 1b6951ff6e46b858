-- `lifting::read::level` meets its contract: the cell is the sheet's own, that of LEVEL.
-- Assumes nothing.
use native.Mathlib.Nat.{zero-add}
use native.Mathlib.Omega.{arith}
use mathlib.Core.Path.{◌≡◌}
use lib.ListN.{length}
use Rattle.bits.specs.Bits.{IsBelow}
use Rattle.tree.specs.Tree.{level}
use Rattle.tree.specs.Tables.{own}
use Rattle.tree.specs.Routes.{level_at}
use Rattle.tree.proofs.Cells.{label-length}
use Rattle.tree.proofs.OwnCells.{level_at_lem}
use Rattle.tree.proofs.Trees.{level-below}
use Rattle.lifting.proofs.read.level.Goals as goal

pub returns-clause-steps : goal.returns-clause-steps
returns-clause-steps c =
    let p = c.requires in
    let s = c.args.sheet.now in
    let is : level_at (own s) c.args.v ≡ level s c.args.v = level_at_lem s c.args.v p.1 in
    let below : IsBelow (level s c.args.v) (length s) (level_at (own s) c.args.v) =
    record { is = is; below = rw is (level-below p.0.tree c.args.v p.1) } in
    rw (c.len.ensures, c.label.ensures) (rw zero-add at below)

pub bounds-label-len : goal.bounds-label-len
bounds-label-len c = rw c.label.ensures (omega (arith, label-length c.args.sheet.now))
