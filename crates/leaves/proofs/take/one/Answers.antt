-- `leaves::take::one` meets its contract: one less is left that names the entry.
-- Assumes nothing.
use native.Mathlib.Omega.{arith}
use Prim.Native.Nat.{◌+◌, ◌-◌}
use mathlib.Core.Path.{refl, ◌∙◌}
use lib.Dec.{eqb}
use lib.ListN.{length, get_or, length-set}
use Rattle.leaves.proofs.Naming.{one_if, one-at-most}
use Rattle.leaves.proofs.Waits.{waiting-entry, took-entry}
use Rattle.leaves.proofs.take.one.Goals as goal

pub returns : goal.returns
returns c = took-entry c.requires.0 c.requires.1 refl (c.from.ensures ∙ one_if _)

-- `f`: the entry, and what is left that names it
pub bounds-work-n : goal.bounds-work-n
bounds-work-n c = let f = waiting-entry c.requires.0 c.requires.1 in omega (arith, c.requires.0.wooded.room)

pub overflow_sub-left : goal.overflow_sub-left
overflow_sub-left c = let f = waiting-entry c.requires.0 c.requires.1 in omega arith

pub bounds-work-n-2 : goal.bounds-work-n-2
bounds-work-n-2 c = let f = waiting-entry c.requires.0 c.requires.1 in omega (arith, c.requires.0.wooded.room)

pub bounds-work-found : goal.bounds-work-found
bounds-work-found c = let f = waiting-entry c.requires.0 c.requires.1 in simp length-set (omega (arith, c.requires.0.wooded.room))

pub overflow_add-work-2 : goal.overflow_add-work-2
overflow_add-work-2 c = let f = waiting-entry c.requires.0 c.requires.1 in omega (arith, c.requires.0.wooded.small, c.requires.0.wait)

pub offset_bounds-work-n-3 : goal.offset_bounds-work-n-3
offset_bounds-work-n-3 c = let f = waiting-entry c.requires.0 c.requires.1 in omega (arith, c.requires.0.wooded.small, c.requires.0.wait)

pub bounds-work-n-3 : goal.bounds-work-n-3
bounds-work-n-3 c =
    let f = waiting-entry c.requires.0 c.requires.1 in
    simp length-set (omega (arith, c.requires.0.wooded.room, c.requires.0.wait))

pub overflow_add-result : goal.overflow_add-result
overflow_add-result c =
    let f = waiting-entry c.requires.0 c.requires.1 in
    let one = one-at-most (eqb (get_or c.args.work.now (length c.args.parents.now + c.args.p) 0 - 1) 0) in
    omega (arith, c.requires.0.wooded.small)
