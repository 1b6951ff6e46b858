-- `tables::stale::label` meets its contract: the table's first k columns are the sheet's own, and the next is compared.
-- Assumes nothing.
use native.Mathlib.Omega.{arith}
use Prim.Native.Nat.{suc, ◌+◌}
use mathlib.Core.Path.{◌≡◌, refl, ◌∙◌}
use lib.ListN.{length}
use Rattle.tree.specs.Tree.{root_of}
use Rattle.tree.proofs.Cells.{label-length}
use Rattle.tree.proofs.Columns.{ready-kept}
use Rattle.labels.proofs.Stepping.{column-room, place-at}
use Rattle.tables.proofs.Columnwise.{columns-more, columns-none}
use Rattle.tables.proofs.Sections.{agree-all, agree-parts, agree-all-first, agree-parts-first}
use Rattle.tables.proofs.stale.label.Goals as goal
use Rattle.tables.proofs.stale.label.Goals.{After-place}

-- the place of the column at hand
place : (c : After-place) → c.place.result ≡ 2 + c.loop-column.column-index
place c = c.place.ensures ∙ place-at c.loop-column.column-index c.loop-column-test.true

pub numbers-same-requires : goal.numbers-same-requires
unfolding root_of
numbers-same-requires c =
    (c.requires.0, c.root-root.ensures, c.requires.1)

pub returns-then-same-n : goal.returns-then-same-n
returns-then-same-n c =
    let own = label-length c.args.parents.now in
    agree-parts-first c.numbers-same.ensures (record { cell = λ x h. refl }) (omega arith) c.if-same-n.true

pub loop-column-init : goal.loop-column-init
loop-column-init c =
    let numbers = c.numbers-same in
    let own = agree-all-first numbers.ensures (record { cell = λ x h. refl }) c.if-same-n.false in
    record { ready = ready-kept c.requires.0 numbers.auto.work; cells = c.requires.1; own = own }

pub agree-same-requires : goal.agree-same-requires
unfolding root_of
agree-same-requires c = (rw (place-at c.loop-column.column-index c.loop-column-test.true) c.loop-column.invariant, c.root-root.ensures)

pub returns-then-same-n-2 : goal.returns-then-same-n-2
returns-then-same-n-2 c =
    let l = c.loop-column in
    let here = place (goal.at.returns-then-same-n-2 c).After-place in
    let most = column-room (2 + l.column-index) (length c.args.parents.now) (omega arith) in
    let own = label-length c.args.parents.now in
    let agreed = rw (place-at l.column-index c.loop-column-test.true) at c.agree-same.ensures in
    rw here (agree-parts l.invariant.own agreed (record { cell = λ x h. refl }) (omega arith) c.if-same-n-2.true)

pub loop-column-preserved : goal.loop-column-preserved
loop-column-preserved c =
    let l = c.loop-column in
    let column = c.agree-same in
    let agreed = rw (place-at l.column-index c.loop-column-test.true) at column.ensures in
    let own = agree-all l.invariant.own agreed (record { cell = λ x h. refl }) c.if-same-n-2.false in
    let next : 2 + (l.column-index + 1) ≡ suc (2 + l.column-index) = omega arith in
    rw next (columns-more (ready-kept l.invariant.ready column.auto.work) l.invariant.cells own)

pub returns : goal.returns
returns c =
    let l = c.loop-column in
    let six : l.column-index ≡ 4 = omega arith in
    columns-none (rw six at l.invariant)
