-- `tables::fill::label` meets its contract: the first k columns are filled.
-- Assumes nothing.
use native.Mathlib.Omega.{arith}
use native.Mathlib.Nat.{zero-add}
use Prim.Native.Nat.{suc, ◌+◌}
use mathlib.Core.Path.{◌≡◌, sym, ◌∙◌}
use lib.ListN.{length}
use Rattle.tree.proofs.Cells.{label-length}
use Rattle.tree.proofs.Columns.{ready-kept}
use Rattle.tree.proofs.Differences.{same_none, same-all}
use Rattle.tables.proofs.Sections.{copied-upto}
use Rattle.labels.proofs.Stepping.{column-room, place-at}
use Rattle.tables.proofs.Columnwise.{columns-more}
use Rattle.tables.proofs.fill.label.Goals as goal
use Rattle.tables.proofs.fill.label.Goals.{After-place}

pub numbers-requires : goal.numbers-requires
numbers-requires c =
    (c.requires.0, c.root-root.ensures)

pub copy-requires : goal.copy-requires
copy-requires c =
    let cells = c.requires.1 in
    let room = c.requires.0.room in
    let kept = c.numbers.auto.work in
    (omega arith, omega arith)

pub loop-column-init : goal.loop-column-init
loop-column-init c =
    let k = c.copy in
    let m = c.numbers in
    let own = rw zero-add at (copied-upto (same_none _ _ _ _) k.ensures m.ensures) in
    record { ready = ready-kept c.requires.0 m.auto.work; cells = k.auto.to ∙ c.requires.1; own = own }

pub make-requires : goal.make-requires
make-requires c = (rw (place-at c.loop-column.column-index c.loop-column-test.true) c.loop-column.invariant, c.root-root.ensures)

-- the place of the column at hand
place : (c : After-place) → c.place.result ≡ 2 + c.loop-column.column-index
place c = c.place.ensures ∙ place-at c.loop-column.column-index c.loop-column-test.true

pub copy-requires-in-loop-column : goal.copy-requires-in-loop-column
copy-requires-in-loop-column c =
    let l = c.loop-column in
    let here = place (goal.at.copy-requires-in-loop-column c).After-place in
    let room = column-room c.place.result (length c.args.parents.now) (omega arith) in
    let kept = c.make.auto.work in
    let cells = l.invariant.cells in
    let work = l.invariant.ready.room in
    (omega arith, omega arith)

pub loop-column-preserved : goal.loop-column-preserved
loop-column-preserved c =
    let l = c.loop-column in
    let k = c.copy-in-loop-column in
    let m = c.make in
    let here = place (goal.at.loop-column-preserved c).After-place in
    let made = rw (place-at l.column-index c.loop-column-test.true) at m.ensures in
    let copied = rw here at k.ensures in
    let next : 2 + (l.column-index + 1) ≡ suc (2 + l.column-index) = omega arith in
    rw next (columns-more (ready-kept l.invariant.ready m.auto.work) (k.auto.to ∙ l.invariant.cells) (copied-upto l.invariant.own copied made))

pub returns : goal.returns
returns c =
    let l = c.loop-column.invariant in
    let e : c.loop-column.column-index ≡ 4 = omega arith in
    same-all _ _ (l.cells ∙ sym (label-length _)) (rw (label-length _) (rw e at l.own))
