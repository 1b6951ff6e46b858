-- `lifting::meet::steps_up` meets its contract: the steps that are left lead where all lead, and the greatest power of two in them is taken first.
-- Assumes nothing.
use Prim.Native.Nat.{ℕ, ◌*◌, ◌%◌, ◌^◌}
use native.Mathlib.Omega.{arith}
use mathlib.Core.Path.{◌≡◌, ap, ◌∙◌}
use Rattle.bits.specs.Bits.{log2}
use Rattle.bits.proofs.Log.{log2-low}
use Rattle.bits.proofs.Ones.{one_shifted}
use Rattle.lifting.proofs.Meeting.{climbing-power, climbing-step, climbing-end}
use Rattle.lifting.proofs.meet.steps_up.Goals as goal
use Rattle.lifting.proofs.meet.steps_up.Goals.{After-log2-k}

-- the power
power : (c : After-log2-k) → 1 * 2 ^ c.log2-k.result % 2 ^ 64 ≡ 2 ^ log2 c.loop-left.left
power c =
    let k = c.log2-k.ensures in
    one_shifted 64 c.log2-k.result (omega (arith, k.below)) ∙ ap (λ (i : ℕ). 2 ^ i) k.is

pub lifted-v-requires : goal.lifted-v-requires
lifted-v-requires c =
    let inv = c.loop-left.invariant in
    (c.requires.0, rw c.log2-k.ensures.is (climbing-power inv), inv.node)

pub loop-left-preserved : goal.loop-left-preserved
loop-left-preserved c =
    climbing-step c.requires.0.tree c.loop-left.invariant c.loop-left-test.true (c.lifted-v.ensures.is ∙ rw c.log2-k.ensures.is)
    (rw (power (goal.at.loop-left-preserved c).After-log2-k))

pub returns : goal.returns
returns c = climbing-end c.loop-left.invariant c.loop-left-test.false

pub overflow_sub-left : goal.overflow_sub-left
overflow_sub-left c = rw (power (goal.at.overflow_sub-left c).After-log2-k) (log2-low _ c.loop-left-test.true)
