-- `tables::stale::numbers` meets its contract: where the sums tell that both columns are the sheet's own, all cells agree.
-- Assumes nothing.
use native.Mathlib.Omega.{arith}
use native.Mathlib.Nat.{le_refl}
use Rattle.tree.proofs.Columns.{ready-kept}
use Rattle.cells.proofs.Stretches.{agree_same}
use Rattle.tables.proofs.stale.numbers.Goals as goal

pub returns-then-numbers_hold : goal.returns-then-numbers_hold
returns-then-numbers_hold c = record { most = le_refl _; same = c.numbers_hold.ensures c.if-numbers_hold.true; parts = λ h. absurd (omega arith) }

pub numbers-requires : goal.numbers-requires
numbers-requires c =
    (ready-kept c.requires.0 c.numbers_hold.auto.work, c.requires.1)

pub returns : goal.returns
returns c = agree_same c.agree.ensures c.numbers.ensures
