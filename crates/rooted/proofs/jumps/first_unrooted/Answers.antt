-- `rooted::jumps::first_unrooted` meets its contract: the climbs of the parts passed meet the root.
-- Assumes nothing.
use native.Mathlib.Nat.{not-suc-le-zero}
use native.Mathlib.Omega.{arith}
use borrow.Author.Count.{below_more}
use borrow.Author.Rules.{rules}
use mathlib.Core.Path.{◌≡◌}
use lib.ListN.{length}
use Rattle.tree.proofs.Places.{cycle-place}
use Rattle.rooted.proofs.Jumping.{linked-root, linked-elsewhere}
use Rattle.rooted.proofs.jumps.first_unrooted.Goals as goal

pub loop-v-init : goal.loop-v-init
loop-v-init c = (search rules, λ j h. absurd (not-suc-le-zero h))

pub returns-then-work-v : goal.returns-then-work-v
returns-then-work-v c =
    let s = c.requires in
    let l = c.loop-v.invariant in
    cycle-place _ _ l.0 l.1 (λ h. linked-elsewhere s.rooted.one s.linked h c.if-work-v.true)

pub loop-v-preserved : goal.loop-v-preserved
loop-v-preserved c =
    let s = c.requires in
    let meets = linked-root s.rooted.one s.linked c.loop-v-test.true (omega arith) in
    (search rules, below_more _ _ c.loop-v.invariant.1 meets)

pub returns : goal.returns
returns c =
    let l = c.loop-v in
    let e : l.v ≡ length c.args.parents.now = omega arith in
    rw e at (cycle-place _ _ l.invariant.0 l.invariant.1 (λ h. absurd (omega arith)))
