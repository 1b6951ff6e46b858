-- `rows::sparse::first_row` meets its contract: the row's first i cells and the levels at the first i positions stand.
-- Assumes nothing.
use native.Mathlib.Omega.{arith}
use mathlib.Core.Path.{◌≡◌}
use lib.ListN.{length}
use Rattle.tree.specs.Buffers.{visits}
use Rattle.rows.proofs.FirstRow.{Stop, stop, first-row-none, first-row-more, first-levels}
use Rattle.rows.proofs.sparse.first_row.Goals as goal
use Rattle.rows.proofs.sparse.first_row.Goals.{In-loop-i}

facts : (c : In-loop-i) → Stop c.args.parents.now c.args.label.now c.args.tour.now c.loop-i.i
facts c = let p = c.requires in stop p.0 p.1 p.2 c.loop-i.i c.loop-i-test.true

pub loop-i-init : goal.loop-i-init
loop-i-init c = first-row-none _ _

pub loop-i-preserved : goal.loop-i-preserved
loop-i-preserved c =
    let l = c.loop-i in
    let h = c.loop-i-test.true in
    let d = facts (goal.at.loop-i-preserved c).In-loop-i in
    first-row-more c.requires.0.ready.tree h (omega arith) d.height l.invariant

pub returns : goal.returns
returns c =
    let l = c.loop-i in
    let e : l.i ≡ visits (length c.args.parents.now) = omega arith in
    let r = rw e at l.invariant in
    (first-levels r, r.own)

pub bounds-label-n : goal.bounds-label-n
bounds-label-n c = let d = facts (goal.at.bounds-label-n c).In-loop-i in omega arith
