-- `tables::fill::sparse` meets its contract: the rows up to the one at `at` are filled, and the levels at its positions stand in a half of work.
-- Assumes nothing.
use mathlib.Core.Path.{refl, ◌∙◌}
use Rattle.tables.proofs.Sections.{copied-upto}
use Rattle.tables.proofs.Rowwise.{rowwise-next, rowwise-all}
use Rattle.tables.proofs.TableRows.{sparse-first, sparse-start, sparse-levels, sparse-row, sparse-next}
use Rattle.tables.proofs.fill.sparse.Goals as goal

pub first_row-requires : goal.first_row-requires
first_row-requires c = sparse-first c.requires

pub loop-row-init : goal.loop-row-init
loop-row-init c =
    let k = c.copy in
    let m = c.first_row in
    let first = c.first-row.ensures in
    sparse-start first c.requires.0.ready m.auto.work m.ensures.0 (k.auto.to ∙ c.requires.1)
    (copied-upto c.requires.2 (rw first.0 at k.ensures) m.ensures.1)

pub fill_next-requires : goal.fill_next-requires
fill_next-requires c = sparse-row c.loop-row.invariant c.loop-row-test.true

pub next_levels-requires : goal.next_levels-requires
next_levels-requires c =
    let l = c.loop-row.invariant in
    sparse-levels l c.loop-row-test.true refl l.levels

pub loop-row-preserved : goal.loop-row-preserved
loop-row-preserved c =
    let l = c.loop-row.invariant in
    let k = c.next_levels in
    let rows = rowwise-next l.rows c.loop-row-test.true c.fill_next.auto.table c.fill_next.ensures in
    sparse-next l c.loop-row-test.true c.next-row.ensures rows k.auto.work k.ensures

pub returns : goal.returns
returns c = rowwise-all c.loop-row.invariant.rows c.loop-row-test.false
