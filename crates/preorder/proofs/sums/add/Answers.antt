-- `preorder::sums::add` meets its contract: the sums are those over the nodes before v, and where no bit is gathered, PREORDER follows them so far.
-- Assumes nothing.
use native.Mathlib.Omega.{arith}
use borrow.Author.Rules.{rules}
use Prim.Native.Nat.{◌+◌, ◌*◌}
use native.Mathlib.Numerals.{add-one}
use mathlib.Core.Path.{◌≡◌, ap, ◌∙◌}
use lib.ListN.{length, get_or}
use Rattle.tree.specs.Tree.{parent}
use Rattle.cells.proofs.Stretches.{no_bits}
use Rattle.preorder.proofs.Parents.{Cells, cells_at}
use Rattle.preorder.proofs.Summing.{sums-more, numbered-none, numbered_more}
use Rattle.preorder.proofs.sums.add.Goals as goal
use Rattle.preorder.proofs.sums.add.Goals.{In-loop-v}

cells : (c : In-loop-v) → Cells c.args.parents.now c.args.label.now c.loop-v.v
cells c =
    let p = c.requires in
    let most = p.most in
    cells_at p.ready.small p.ready.tree.inside p.cells (omega arith)

-- work keeps its length
room : (c : In-loop-v) → length c.loop-v.work ≡ 4 * length c.args.parents.now
room c = c.loop-v.auto.work ∙ c.requires.ready.room

pub loop-v-init : goal.loop-v-init
loop-v-init c = (c.requires.sums, λ e. numbered-none _ _ _)

pub loop-v-preserved : goal.loop-v-preserved
unfolding parent
loop-v-preserved c =
    let l = c.loop-v in
    let f = cells (goal.at.loop-v-preserved c).In-loop-v in
    let child = c.requires.child l.v (omega arith) c.loop-v-test.true in (
      rw add-one (sums-more (omega (arith, room (goal.at.loop-v-preserved c).In-loop-v)) f.above child l.invariant.0),
      λ z.
          let none = no_bits _ _ _ z in
          rw add-one
          (numbered_more (l.invariant.1 none.0)
          (none.1 ∙ ap (λ k. get_or c.args.label.now (get_or c.args.parents.now l.v 0) 0 + k) (l.invariant.0.sum _ f.above))),
    )

pub returns : goal.returns
returns c =
    λ z.
    let l = c.loop-v in
    let e : l.v ≡ c.args.end = omega arith in
    (rw e at l.invariant.0, rw e at (l.invariant.1 (search rules)))

pub bounds-work-p : goal.bounds-work-p
bounds-work-p c = let d = cells (goal.at.bounds-work-p c).In-loop-v in omega (arith, room (goal.at.bounds-work-p c).In-loop-v)

pub bounds-label-p : goal.bounds-label-p
bounds-label-p c = let d = cells (goal.at.bounds-label-p c).In-loop-v in omega arith

pub bounds-work-p-in-loop-v : goal.bounds-work-p-in-loop-v
bounds-work-p-in-loop-v c = let d = cells (goal.at.bounds-work-p-in-loop-v c).In-loop-v in omega (arith, room (goal.at.bounds-work-p-in-loop-v c).In-loop-v)
