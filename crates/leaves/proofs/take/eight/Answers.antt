-- `leaves::take::eight` meets its contract: the entries are those of the parts that wait, and k of them are taken.
-- Assumes nothing.
use Prim.Native.Nat.{ℕ, ◌+◌, ◌-◌}
use native.Mathlib.Omega.{arith}
use mathlib.Core.Path.{◌≡◌, sym, ap}
use lib.ListN.{length-set}
use Rattle.tree.proofs.Differences.{store-either}
use Rattle.leaves.specs.Leaves.{entry_at}
use Rattle.leaves.proofs.Waits.{waiting-first, waiting-later, waiting-part, entry_kept, took-none, took-both}
use Rattle.leaves.proofs.take.eight.Goals as goal

pub offset_bounds-work-at : goal.offset_bounds-work-at
offset_bounds-work-at c = let f = waiting-part c.requires (c.args.at + c.loop-i.i) (omega arith) in let small = c.requires.wooded.small in omega arith

pub loop-i-preserved : goal.loop-i-preserved
loop-i-preserved c =
    let l = c.loop-i in
    let entry = entry_at c.args.parents.now c.args.work.now in (
      simp length-set l.invariant.0,
      λ j h.
          store-either l.entries l.i _ j (entry (c.args.at + j)) (omega (arith, l.invariant.0)) (λ e. ap (λ (x : ℕ). entry (c.args.at + x)) (sym e))
          (λ e. l.invariant.1 j (omega arith)),
    )

pub loop-k-init : goal.loop-k-init
loop-k-init c = took-none c.requires.taking

pub one-found-requires : goal.one-found-requires
one-found-requires c =
    let k = c.loop-k.k in
    let took = c.loop-k.invariant in
    let wait = c.requires.wait in
    let whole : k + (8 - k) ≡ 8 = omega arith in
    let waiting = rw (← whole) at c.requires in (
      waiting-first 1 (omega arith) (waiting-later {j = k} {k = 8 - k} waiting took),
      entry_kept (c.args.at + k) took (omega arith) (c.loop-i.invariant.1 k (omega arith)),
    )

pub loop-k-preserved : goal.loop-k-preserved
loop-k-preserved c = took-both c.loop-k.invariant c.one-found.ensures.0

pub returns : goal.returns
returns c =
    let l = c.loop-k in
    let e : l.k ≡ 8 = omega arith in
    rw e at l.invariant
