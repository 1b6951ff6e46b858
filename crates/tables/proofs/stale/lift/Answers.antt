-- `tables::stale::lift` meets its contract: the table's rows are the sheet's own up to the row that the loop is at, and the next is compared.
-- Assumes nothing.
use native.Mathlib.Omega.{arith}
use Rattle.tree.proofs.Differences.{same_none}
use Rattle.tree.proofs.Columns.{ready-kept}
use Rattle.tables.proofs.Rowwise.{rowwise-small, rowwise-agreed, rowwise-parts, rowwise-none}
use Rattle.tables.proofs.TableRows.{lift-room, lift-first, lift-rows-start, lift-row}
use Rattle.tables.proofs.Sections.{agree-all, agree-parts-first}
use Rattle.tables.proofs.stale.lift.Goals as goal

pub returns-then-same-n : goal.returns-then-same-n
returns-then-same-n c =
    let room = lift-room c.args.parents.now in
    agree-parts-first c.agree-same.ensures (lift-first _) room c.if-same-n.true

pub loop-power-init : goal.loop-power-init
loop-power-init c =
    (c.requires.0, lift-rows-start c.requires.0 c.requires.1 (agree-all (same_none _ _ 0 0) c.agree-same.ensures (lift-first _) c.if-same-n.false))

pub agree_lift-same-requires : goal.agree_lift-same-requires
agree_lift-same-requires c =
    let l = c.loop-power.invariant in
    lift-row l.1 l.0 c.loop-power-test.true

pub returns-then-same-n-2 : goal.returns-then-same-n-2
returns-then-same-n-2 c =
    rowwise-parts c.loop-power.invariant.1 c.loop-power-test.true c.agree_lift-same.ensures c.if-same-n-2.true

pub loop-power-preserved : goal.loop-power-preserved
loop-power-preserved c =
    let l = c.loop-power.invariant in
    (ready-kept l.0 c.agree_lift-same.auto.work, rowwise-agreed l.1 c.loop-power-test.true c.agree_lift-same.ensures c.if-same-n-2.false)

pub returns : goal.returns
returns c = rowwise-none c.loop-power.invariant.1 c.loop-power-test.false

pub overflow_mul-power : goal.overflow_mul-power
overflow_mul-power c =
    let l = c.loop-power.invariant in
    let small = rowwise-small l.1 in
    let most = l.0.small in
    omega arith
