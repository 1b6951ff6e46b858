-- `cells::agree` meets its contract: no bit differs, or the i cells passed are the same.
-- Assumes nothing.
use native.Mathlib.Nat.{le_refl}
use native.Mathlib.Omega.{arith}
use Rattle.cells.proofs.agree.Goals as goal

pub returns-then-same : goal.returns-then-same
returns-then-same c = record { most = le_refl _; same = c.same.ensures c.if-same.true; parts = λ h. absurd (omega arith) }
