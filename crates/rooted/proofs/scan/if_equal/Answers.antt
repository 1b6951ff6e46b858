-- `rooted::scan::if_equal` meets its contract.
-- Assumes nothing.
use Prim.Native.Nat.{zero-le}
use native.Mathlib.Nat.{le_refl}
use mathlib.Core.Path.{refl}
use borrow.Author.Tests.{eq-eqb, ne_eqb}
use Rattle.rooted.proofs.scan.if_equal.Goals as goal

pub returns-then-a-b : goal.returns-then-a-b
returns-then-a-b c = (rw (eq-eqb _ _ c.if-a-b.true) refl, le_refl _)

pub returns : goal.returns
returns c = (rw (ne_eqb _ _ c.if-a-b.false) refl, zero-le)
