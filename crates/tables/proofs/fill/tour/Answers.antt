-- `tables::fill::tour` meets its contract: the tour and the first positions are copied out, and then the rows.
-- Assumes nothing.
use native.Mathlib.Omega.{arith}
use native.Mathlib.Nat.{zero-add}
use mathlib.Core.Path.{◌∙◌}
use Rattle.tree.proofs.Columns.{columns-kept}
use Rattle.tree.proofs.Differences.{same_none}
use Rattle.tables.proofs.Sections.{copied-upto}
use Rattle.tables.proofs.TableRows.{own-tour-length, tour-room}
use Rattle.tables.proofs.fill.tour.Goals as goal

pub visits-requires : goal.visits-requires
visits-requires c = c.requires.0

pub copy-requires : goal.copy-requires
copy-requires c =
    let cells = c.requires.1 in
    let room = tour-room c.requires.0.ready in
    let own = own-tour-length c.requires.0.ready in
    let work = c.requires.0.ready.room in
    let kept = c.visits.auto.work in
    (omega arith, omega arith)

pub first_visits-requires : goal.first_visits-requires
first_visits-requires c =
    columns-kept c.requires.0 c.visits.auto.work

pub copy-requires-2 : goal.copy-requires-2
copy-requires-2 c =
    let cells = c.requires.1 in
    let room = tour-room c.requires.0.ready in
    let own = own-tour-length c.requires.0.ready in
    let work = c.requires.0.ready.room in
    let kept = c.first_visits.auto.work in
    let kept-before = c.visits.auto.work in
    let table = c.copy.auto.to in
    (omega arith, omega arith)

pub sparse-requires : goal.sparse-requires
sparse-requires c =
    let tour = rw zero-add at (copied-upto (same_none _ _ _ _) c.copy.ensures c.visits.ensures) in (
      columns-kept c.requires.0 (c.first_visits.auto.work ∙ c.visits.auto.work),
      c.copy-2.auto.to ∙ c.copy.auto.to ∙ c.requires.1,
      copied-upto tour c.copy-2.ensures c.first_visits.ensures,
    )
