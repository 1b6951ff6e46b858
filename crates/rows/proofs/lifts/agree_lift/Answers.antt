-- `rows::lifts::agree_lift` meets its contract: where no bit differs, all agree.
-- Assumes nothing.
use native.Mathlib.Omega.{arith}
use native.Mathlib.Nat.{le_refl}
use Rattle.cells.proofs.Stretches.{agree_same}
use Rattle.rows.proofs.Doubled.{next-room}
use Rattle.rows.proofs.lifts.agree_lift.Goals as goal

pub returns-then-next_holds : goal.returns-then-next_holds
returns-then-next_holds c = record { most = le_refl _; same = c.next_holds.ensures c.if-next_holds.true; parts = λ h. absurd (omega arith) }

pub agree-requires : goal.agree-requires
agree-requires c =
    let room = next-room c.requires in
    let kept = c.next_lift.auto.work in
    let cells = c.requires.ready.room in
    (omega arith, omega arith)

pub returns : goal.returns
returns c = agree_same c.agree.ensures c.next_lift.ensures
