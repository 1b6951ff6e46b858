-- `leaves::fall` meets its contract: the cells passed hold falling numbers, and beside them their entries.
-- Assumes nothing.
use native.Mathlib.Omega.{arith}
use Rattle.leaves.proofs.Ending.{falling-step}
use Rattle.leaves.proofs.fall.Goals as goal

pub loop-i-init : goal.loop-i-init
loop-i-init c = record { cell = λ j b. absurd (omega arith); beside = λ j b. absurd (omega arith) }

pub loop-i-preserved : goal.loop-i-preserved
loop-i-preserved c =
    let same = c.loop-i.auto.work in
    let room = c.requires.1 in
    falling-step (omega arith) c.loop-i-test.true c.loop-i.invariant

pub returns : goal.returns
returns c =
    let l = c.loop-i.invariant in
    let last = c.loop-i-test.false in
    record { cell = λ i h. l.cell i (omega arith); beside = λ i h. l.beside i (omega arith) }
