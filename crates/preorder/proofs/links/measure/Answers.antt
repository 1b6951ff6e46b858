-- `preorder::links::measure` meets its contract: the nodes below v have their SIZE.
-- Assumes nothing.
use native.Mathlib.Omega.{arith}
use borrow.Author.Rules.{rules}
use mathlib.Core.Path.{◌≡◌}
use lib.ListN.{length}
use Rattle.preorder.proofs.Walking.{measuring-start, measuring-ends, measuring-step, measuring-end}
use Rattle.preorder.proofs.links.measure.Goals as goal

pub loop-v-init : goal.loop-v-init
loop-v-init c =
    measuring-start c.requires.0 c.requires.1

pub end-requires : goal.end-requires
end-requires c = (c.loop-v.invariant.number.room, search rules)

pub loop-v-preserved : goal.loop-v-preserved
loop-v-preserved c =
    let t = c.requires.0.tree in
    measuring-step t c.loop-v-test.true c.loop-v.invariant c.end.ensures

pub returns : goal.returns
returns c =
    let l = c.loop-v in
    let e : l.v ≡ length c.args.parents.now = omega arith in
    measuring-end (rw e at l.invariant)

pub overflow_sub-work : goal.overflow_sub-work
overflow_sub-work c =
    let e = measuring-ends c.requires.0.tree c.loop-v-test.true c.loop-v.invariant in
    omega (arith, c.end.ensures)
