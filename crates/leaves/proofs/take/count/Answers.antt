-- `leaves::take::count` meets its contract: each part is one more that names its entry.
-- Assumes nothing.
use native.Mathlib.Omega.{arith}
use Prim.Native.Nat.{◌<◌}
use mathlib.Core.Path.{refl}
use lib.ListN.{length, get_or}
use Rattle.tree.proofs.Scans.{count_most}
use Rattle.leaves.specs.Leaves.{Wooded, names}
use Rattle.leaves.proofs.Naming.{wooded-same, entry-part, named_step}
use Rattle.leaves.proofs.take.count.Goals as goal
use Rattle.leaves.proofs.take.count.Goals.{In-loop-p}

wooded : (c : In-loop-p) → Wooded c.args.parents.now c.loop-p.work
wooded c = wooded-same c.requires.0 c.loop-p.auto.work

-- the entry is a part
here : (c : In-loop-p) → get_or c.args.parents.now c.loop-p.p-index 0 < length c.args.parents.now
here c = entry-part c.requires.0 c.loop-p.p-index c.loop-p-test.true

pub loop-p-preserved : goal.loop-p-preserved
loop-p-preserved c = named_step (wooded (goal.at.loop-p-preserved c).In-loop-p) c.loop-p.invariant c.loop-p-test.true refl refl

pub bounds-work-n : goal.bounds-work-n
bounds-work-n c = let f = here (goal.at.bounds-work-n c).In-loop-p in let g = wooded (goal.at.bounds-work-n c).In-loop-p in omega arith

pub overflow_add-work-in-loop-p : goal.overflow_add-work-in-loop-p
overflow_add-work-in-loop-p c =
    let l = c.loop-p in
    let s = c.args.parents.now in
    let p = get_or s l.p-index 0 in
    let most = count_most (names s p) l.p-index in
    let counted = l.invariant.counted p (here (goal.at.overflow_add-work-in-loop-p c).In-loop-p) in
    let g = c.requires.0.small in
    omega arith

pub bounds-work-n-in-loop-p : goal.bounds-work-n-in-loop-p
bounds-work-n-in-loop-p c =
    let f = here (goal.at.bounds-work-n-in-loop-p c).In-loop-p in let g = wooded (goal.at.bounds-work-n-in-loop-p c).In-loop-p in omega arith
