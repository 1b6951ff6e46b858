-- `labels::Column::agree` meets its contract: where the column is told to be the sheet's own, all cells agree.
-- Assumes nothing.
use native.Mathlib.Omega.{arith}
use native.Mathlib.Nat.{le_refl}
use lib.ListN.{length}
use Rattle.cells.proofs.Stretches.{agree_same}
use Rattle.labels.proofs.Stepping.{column-room, place-below}
use Rattle.labels.proofs.Column.agree.Goals as goal

pub returns-then-holds : goal.returns-then-holds
returns-then-holds c = record { most = le_refl _; same = c.holds.ensures c.if-holds.true; parts = λ h. absurd (omega arith) }

pub agree-requires : goal.agree-requires
agree-requires c =
    let room = column-room c.place.result (length c.args.parents.now) (rw c.place.ensures (place-below c.args.self)) in
    let kept = c.make.auto.work in
    let cells = c.requires.0.cells in
    let work = c.requires.0.ready.room in
    (omega arith, omega arith)

pub returns : goal.returns
returns c = agree_same (rw c.place.ensures at c.agree.ensures) c.make.ensures
