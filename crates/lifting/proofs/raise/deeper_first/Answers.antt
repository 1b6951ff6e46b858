-- `lifting::raise::deeper_first` meets its contract: both levels are the sheet's own.
-- Assumes nothing.
use native.Mathlib.Omega.{arith}
use mathlib.Core.Path.{◌≡◌, refl}
use Rattle.tree.specs.Tables.{own}
use Rattle.tree.specs.Trail.{gap}
use Rattle.lifting.specs.Stored.{row_of}
use Rattle.lifting.proofs.Meeting.{swapped}
use Rattle.lifting.proofs.raise.deeper_first.Goals as goal
use Rattle.lifting.proofs.raise.deeper_first.Goals.{then-i-j, else-i-j}

pub returns : goal.returns
returns c =
    let p = c.requires in
    let i = c.level-i.ensures in
    let j = c.level-j.ensures in
    let difference : c.abs_diff.result ≡ gap (own c.args.sheet.now) (row_of c.args.pair) = rw (c.abs_diff.ensures, i.cell, j.cell) in
    elim c.if-i-j.branch [
      | then-i-j w ↦
          rw w.deep-is (record {
            pair = record { small = p.small; left = p.right; right = p.left };
            difference = difference;
            deeper = omega (arith, i.steps, j.steps, c.abs_diff.ensures);
            carrier = swapped p;
          })
      | else-i-j w ↦
          rw w.deep-is (record { pair = p; difference = difference; deeper = omega (arith, i.steps, j.steps, c.abs_diff.ensures); carrier = refl })
    ]
