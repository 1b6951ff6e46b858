-- `tables::stale::tour` meets its contract: the tour and the first visits are made and compared, then the rows.
-- Assumes nothing.
use native.Mathlib.Omega.{arith}
use mathlib.Core.Path.{◌∙◌}
use lib.ListN.{length}
use Rattle.tree.specs.Buffers.{visits}
use Rattle.tree.specs.Tour.{tour_table}
use Rattle.tree.specs.Sections.{Same}
use Rattle.tree.proofs.Columns.{columns-kept}
use Rattle.tables.proofs.Sections.{agree-all, agree-parts, agree-all-first, agree-parts-first}
use Rattle.tables.proofs.TableRows.{tour-room}
use Rattle.tables.proofs.stale.tour.Goals as goal
use Rattle.tables.proofs.stale.tour.Goals.{Else-same-m}

-- the tour is the sheet's own
toured : (c : Else-same-m) → Same c.args.table.now 0 (tour_table c.args.parents.now) 0 (visits (length c.args.parents.now))
toured c = agree-all-first c.agree-same.ensures c.visits.ensures c.if-same-m.false

pub returns-then-same-m : goal.returns-then-same-m
returns-then-same-m c =
    let room = tour-room c.requires.0.ready in
    agree-parts-first c.agree-same.ensures c.visits.ensures (omega arith) c.if-same-m.true

pub first_visits-requires : goal.first_visits-requires
first_visits-requires c =
    columns-kept c.requires.0 c.visits.auto.work

pub returns-then-same-n : goal.returns-then-same-n
returns-then-same-n c =
    let room = tour-room c.requires.0.ready in
    agree-parts (toured (goal.at.returns-then-same-n c).Else-same-m) c.agree-same-2.ensures c.first_visits.ensures (omega arith) c.if-same-n.true

pub sparse-requires : goal.sparse-requires
sparse-requires c =
    let same = agree-all (toured (goal.at.sparse-requires c).Else-same-m) c.agree-same-2.ensures c.first_visits.ensures c.if-same-n.false in
    (columns-kept c.requires.0 (c.first_visits.auto.work ∙ c.visits.auto.work), c.requires.1, same)
