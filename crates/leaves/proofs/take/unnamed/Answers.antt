-- `leaves::take::unnamed` meets its contract: of the parts passed, those that none names are in the order.
-- Assumes nothing.
use native.Mathlib.Omega.{arith}
use mathlib.Core.Path.{◌≡◌, ◌∙◌}
use lib.ListN.{length}
use Rattle.leaves.proofs.Naming.{one_if, seeding-start, seeding-step, seeding-end}
use Rattle.leaves.proofs.take.unnamed.Goals as goal

pub loop-v-init : goal.loop-v-init
loop-v-init c = seeding-start c.requires.1

pub loop-v-preserved : goal.loop-v-preserved
loop-v-preserved c =
    seeding-step c.requires.0 c.loop-v.auto.work c.loop-v.invariant c.loop-v-test.true (c.from-found.ensures ∙ one_if _)

pub returns : goal.returns
returns c =
    let l = c.loop-v in
    let e : l.v ≡ length c.args.parents.now = let w = l.invariant.within in omega arith in
    seeding-end (rw e at l.invariant)
