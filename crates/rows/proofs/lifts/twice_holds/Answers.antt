-- `rows::lifts::twice_holds` meets its contract: where no bit is gathered, the next row's first v cells are the sheet's own.
-- Assumes nothing.
use native.Mathlib.Omega.{arith}
use borrow.Author.Tests.{eqb-true}
use native.Mathlib.Numerals.{add-one}
use mathlib.Core.Path.{◌≡◌, ◌∙◌}
use lib.ListN.{length}
use Rattle.tree.proofs.Differences.{same_none, same_more}
use Rattle.cells.proofs.Stretches.{no_bits}
use Rattle.rows.proofs.Doubled.{Doubled, doubled}
use Rattle.rows.proofs.lifts.twice_holds.Goals as goal
use Rattle.rows.proofs.lifts.twice_holds.Goals.{In-loop-v}

facts : (c : In-loop-v) → Doubled c.args.parents.now c.args.lift.now c.args.at c.loop-v.v
facts c = doubled c.requires c.loop-v.v c.loop-v-test.true

pub loop-v-init : goal.loop-v-init
loop-v-init c = λ e. same_none _ _ _ _

pub loop-v-preserved : goal.loop-v-preserved
loop-v-preserved c =
    let l = c.loop-v in
    let d = facts (goal.at.loop-v-preserved c).In-loop-v in
    λ z. let none = no_bits _ _ _ z in rw add-one (same_more (l.invariant none.0) (none.1 ∙ d.twice))

pub returns : goal.returns
returns c =
    λ z.
    let l = c.loop-v in
    let end : l.v ≡ length c.args.parents.now = omega arith in
    rw end at (l.invariant (eqb-true _ _ z))

pub bounds-lift-at-in-loop-v-2 : goal.bounds-lift-at-in-loop-v-2
bounds-lift-at-in-loop-v-2 c = let d = facts (goal.at.bounds-lift-at-in-loop-v-2 c).In-loop-v in omega arith
