-- `leaves::none_later` meets its contract: while no bit is gathered, no part passed names a later one.
-- Assumes nothing.
use Prim.Native.Nat.{◌-◌}
use native.Mathlib.Omega.{arith}
use mathlib.Core.Path.{◌≡◌}
use borrow.Author.Count.{below_more}
use borrow.Author.Tests.{eqb-true}
use lib.ListN.{get_or}
use Rattle.cells.proofs.Stretches.{or-none}
use Rattle.leaves.proofs.none_later.Goals as goal

pub loop-v-init : goal.loop-v-init
loop-v-init c = λ _ j b. absurd (omega arith)

pub loop-v-preserved : goal.loop-v-preserved
loop-v-preserved c = λ z.
    let l = c.loop-v in
    let none = or-none l.bits c.saturating_sub-bits.result z in
    let less : c.saturating_sub-bits.result ≡ get_or c.args.parents.now l.v 0 - l.v = c.saturating_sub-bits.ensures in
    below_more _ _ (l.invariant none.0) (omega (arith, none.1))

pub returns : goal.returns
returns c = λ z j b. c.loop-v.invariant (eqb-true _ _ z) j (omega arith)
