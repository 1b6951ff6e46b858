-- `lifting::meet::meeting` meets its contract: the steps that are left until both parts stand right under the carrier are fewer than 2^k.
-- Assumes nothing.
use Prim.Native.Nat.{suc}
use native.Mathlib.Numerals.{add-one}
use mathlib.Core.Path.{ap, ◌∙◌}
use Rattle.lifting.proofs.Meeting.{nearing-start, nearing-pass, nearing-skip, nearing-end}
use Rattle.lifting.proofs.meet.meeting.Goals as goal

pub loop-k-init : goal.loop-k-init
loop-k-init c =
    let p = c.requires in
    nearing-start p.0 p.1 p.2 c.level.ensures.steps.is (add-one _ ∙ ap suc c.log2.ensures.is)

pub loop-k-preserved-in-Some : goal.loop-k-preserved-in-Some
loop-k-preserved-in-Some c =
    let (passes, is, pair) = c.in-Some.ensures in
    nearing-pass c.requires.0.small.tree c.loop-k.invariant c.loop-k-test.true passes is

pub loop-k-preserved : goal.loop-k-preserved
loop-k-preserved c = nearing-skip c.requires.0.small.tree c.loop-k.invariant c.loop-k-test.true c.in_default.ensures

pub returns : goal.returns
returns c =
    let last = c.raise_both.ensures in
    record { is = nearing-end c.requires.0.small.tree c.loop-k.invariant c.loop-k-test.false last.0; below = last.1.left }
