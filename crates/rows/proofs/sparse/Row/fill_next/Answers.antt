-- `rows::sparse::Row::fill_next` meets its contract: the table is the sheet's own up to the next row's first i cells; then come the blocks that pass the end.
-- Assumes nothing.
use native.Mathlib.Omega.{arith}
use Prim.Native.Nat.{◌+◌, ◌-◌, ◌*◌}
use native.Mathlib.Nat.{zero-add}
use mathlib.Core.Path.{◌≡◌, ◌∙◌}
use lib.ListN.{length, get_or}
use Rattle.tree.specs.Buffers.{visits}
use Rattle.tree.specs.Tour.{tour_table}
use Rattle.tree.proofs.Differences.{same_store}
use Rattle.rows.specs.Rows.{TwoBlocks}
use Rattle.rows.proofs.Halves.{next-room, two_blocks, row-filled}
use Rattle.rows.proofs.sparse.Row.fill_next.Goals as goal
use Rattle.rows.proofs.sparse.Row.fill_next.Goals.{In-loop-i}

pub loop-i-init : goal.loop-i-init
loop-i-init c = record { cell = λ x h. c.requires.own.cell x (omega arith) }

-- the two blocks of cell i
blocks : (c : In-loop-i) → TwoBlocks c.args.parents.now c.loop-i.table c.args.work.now c.args.self.at c.args.self.half c.args.self.from c.loop-i.i
blocks c =
    let l = c.loop-i in
    let two = c.requires.level-row.two in
    two_blocks c.requires l.auto.table (record { cell = λ x h. l.invariant.cell x (omega arith) }) l.i (omega arith)

pub chosen-requires : goal.chosen-requires
chosen-requires c =
    let b = blocks (goal.at.chosen-requires c).In-loop-i in
    record { row = b.right; levels = b.right-level }

pub loop-i-preserved : goal.loop-i-preserved
loop-i-preserved c =
    let l = c.loop-i in
    let m = visits (length c.args.parents.now) in
    let room = next-room c.requires in
    let two = c.requires.level-row.two in
    let some = c.requires.level-row.some in
    let next : c.args.self.at + m + l.i + 1 ≡ c.args.self.at + m + (l.i + 1) = omega arith in
    let lesser = (blocks (goal.at.loop-i-preserved c).In-loop-i).lesser in
    let own : c.chosen.result ≡ get_or (tour_table c.args.parents.now) (0 + (c.args.self.at + m + l.i)) 0 = rw zero-add (c.chosen.ensures ∙ lesser) in
    rw next at (same_store (omega arith) l.invariant own)

pub fill-requires : goal.fill-requires
fill-requires c =
    let p = c.requires in
    let room = next-room p in
    let two = p.level-row.two in
    omega arith

pub returns : goal.returns
returns c =
    let l = c.loop-i in
    let e : l.i ≡ 2 * length c.args.parents.now - 2 * c.args.self.half = omega arith in
    row-filled c.requires (rw e at l.invariant) c.fill.ensures
