-- `tables::stale::sparse` meets its contract: the table's rows are the sheet's own up to the row that the loop is at, and the next is compared. The
-- levels at that row's positions stand in a half of work.
-- Assumes nothing.
use mathlib.Core.Path.{◌∙◌}
use Rattle.tables.proofs.Rowwise.{rowwise-agreed, rowwise-parts, rowwise-none}
use Rattle.tables.proofs.TableRows.{tour-room, sparse-first, sparse-start, sparse-levels, sparse-row, sparse-next}
use Rattle.tables.proofs.Sections.{agree-all, agree-parts}
use Rattle.tables.proofs.stale.sparse.Goals as goal

pub first_row-requires : goal.first_row-requires
first_row-requires c = sparse-first c.requires

pub returns-then-same-m : goal.returns-then-same-m
returns-then-same-m c =
    let begins = c.first-row.ensures.0 in
    rw begins (agree-parts c.requires.2 (rw begins at c.agree-same.ensures) c.first_row.ensures.1 (tour-room c.requires.0.ready) c.if-same-m.true)

pub loop-row-init : goal.loop-row-init
loop-row-init c =
    let first = c.first_row in
    let row = c.first-row.ensures in
    let same = agree-all c.requires.2 (rw row.0 at c.agree-same.ensures) first.ensures.1 c.if-same-m.false in
    sparse-start row c.requires.0.ready first.auto.work first.ensures.0 c.requires.1 same

pub agree_next-same-requires : goal.agree_next-same-requires
agree_next-same-requires c = sparse-row c.loop-row.invariant c.loop-row-test.true

pub returns-then-same-m-2 : goal.returns-then-same-m-2
returns-then-same-m-2 c =
    rowwise-parts c.loop-row.invariant.rows c.loop-row-test.true c.agree_next-same.ensures.1 c.if-same-m-2.true

pub next_levels-requires : goal.next_levels-requires
next_levels-requires c =
    sparse-levels c.loop-row.invariant c.loop-row-test.true c.agree_next-same.auto.work c.agree_next-same.ensures.0

pub loop-row-preserved : goal.loop-row-preserved
loop-row-preserved c =
    let l = c.loop-row.invariant in
    let k = c.next_levels in
    let rows = rowwise-agreed l.rows c.loop-row-test.true c.agree_next-same.ensures.1 c.if-same-m-2.false in
    sparse-next l c.loop-row-test.true c.next-row.ensures rows (k.auto.work ∙ c.agree_next-same.auto.work) k.ensures

pub returns : goal.returns
returns c = rowwise-none c.loop-row.invariant.rows c.loop-row-test.false
