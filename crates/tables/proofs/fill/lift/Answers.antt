-- `tables::fill::lift` meets its contract: the rows up to the one at `at` are filled.
-- Assumes nothing.
use native.Mathlib.Omega.{arith}
use mathlib.Core.Path.{◌∙◌}
use Rattle.tree.proofs.Columns.{ready-kept}
use Rattle.tree.proofs.Differences.{same_none}
use Rattle.tables.proofs.Sections.{copied-upto}
use Rattle.tables.proofs.Rowwise.{rowwise-small, rowwise-next-fits, rowwise-next, rowwise-all}
use Rattle.tables.proofs.TableRows.{lift-first, lift-rows-start, lift-row}
use Rattle.tables.proofs.fill.lift.Goals as goal

pub loop-power-init : goal.loop-power-init
loop-power-init c =
    let k = c.copy in
    (c.requires.0, lift-rows-start c.requires.0 (k.auto.to ∙ c.requires.1) (copied-upto (same_none _ _ _ _) k.ensures (lift-first _)))

pub next_lift-requires : goal.next_lift-requires
next_lift-requires c =
    let l = c.loop-power.invariant in
    lift-row l.1 l.0 c.loop-power-test.true

pub copy-requires-in-loop-power : goal.copy-requires-in-loop-power
copy-requires-in-loop-power c =
    let l = c.loop-power.invariant in
    let kept = c.next_lift.auto.work in
    let room = l.0.room in
    rowwise-next-fits l.1 c.loop-power-test.true (omega arith)

pub loop-power-preserved : goal.loop-power-preserved
loop-power-preserved c =
    let l = c.loop-power.invariant in
    let k = c.copy-in-loop-power in
    let m = c.next_lift in
    (ready-kept l.0 m.auto.work, rowwise-next l.1 c.loop-power-test.true k.auto.to (copied-upto l.1.same k.ensures m.ensures))

pub returns : goal.returns
returns c = rowwise-all c.loop-power.invariant.1 c.loop-power-test.false

pub overflow_mul-power : goal.overflow_mul-power
overflow_mul-power c =
    let small = rowwise-small c.loop-power.invariant.1 in
    omega arith
