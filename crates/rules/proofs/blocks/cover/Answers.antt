-- `rules::blocks::cover` meets its contract: the cells read are those of the two blocks.
-- Assumes nothing.
use native.Mathlib.Omega.{arith}
use Prim.Native.Nat.{◌+◌, ◌-◌, ◌*◌, ◌^◌, ◌%◌}
use mathlib.Core.Path.{◌∙◌}
use Rattle.bits.proofs.Ones.{one_shifted}
use Rattle.rules.proofs.TourCells.{Blocks, blocks}
use Rattle.rules.proofs.blocks.cover.Goals as goal
use Rattle.rules.proofs.blocks.cover.Goals.{After-log2-k}

-- the two blocks, once the length of each is known; 1 shifted up by k is 2 ^ k
facts : (c : After-log2-k) →
    Blocks c.args.sheet.now c.tour-tour.result.now c.args.i c.args.j c.log2-k.result (c.args.j + 1 - 1 * 2 ^ c.log2-k.result % 2 ^ 64)
facts c =
    let p = c.requires in
    let r = c.log2-k.ensures in
    blocks p.0 c.tour-tour.ensures p.1 p.2 r.is (rw (one_shifted 64 c.log2-k.result (omega arith)))

pub returns : goal.returns
returns c =
    let d = facts (goal.at.returns c).After-log2-k in
    rw c.len-n.ensures (record {
      left = d.left.is ∙ d.left_is;
      right = d.right.is ∙ d.right_is;
      left-inside = d.left.position;
      right-inside = d.right.position;
    })

pub bounds-tour-row : goal.bounds-tour-row
bounds-tour-row c = rw c.len-n.ensures (facts (goal.at.bounds-tour-row c).After-log2-k).left.room

pub overflow_sub-right : goal.overflow_sub-right
overflow_sub-right c = let d = facts (goal.at.overflow_sub-right c).After-log2-k in omega arith

pub bounds-tour-row-2 : goal.bounds-tour-row-2
bounds-tour-row-2 c = rw c.len-n.ensures (facts (goal.at.bounds-tour-row-2 c).After-log2-k).right.room
