-- `labels::heads` meets its contract: HEAD is found of the numbers that have none, or the root, or a node below v.
-- Assumes nothing.
use native.Mathlib.Omega.{arith}
use borrow.Author.Rules.{rules}
use Prim.Native.Nat.{◌<◌}
use mathlib.Core.Path.{◌≡◌}
use lib.Dec.{lit<}
use lib.ListN.{length, get_or}
use Rattle.tree.specs.Tree.{parent}
use Rattle.tree.specs.Buffers.{work_cells}
use Rattle.tree.proofs.Columns.{column-same}
use Rattle.preorder.proofs.Parents.{the-root}
use Rattle.labels.proofs.Labelled.{Labelled, labelled}
use Rattle.labels.proofs.Tops.{place_inside, heads-start, heads-step, heads-end}
use Rattle.labels.proofs.heads.Goals as goal
use Rattle.labels.proofs.heads.Goals.{Start, In-loop-v, After-place}

-- the root is a node
root_below : (c : Start) → c.args.root < length c.args.parents.now
root_below c = (the-root c.requires.0.ready.tree c.requires.1).node

-- the root's INLABEL
root-here : (c : Start) → Labelled c.args.parents.now c.args.label.now c.args.root
root-here c = labelled (root_below c) c.requires.0

-- the INLABEL of v
here : (c : In-loop-v) → Labelled c.args.parents.now c.args.label.now c.loop-v.v
here c = labelled c.loop-v-test.true c.requires.0

-- the parent of v is a node
up : (c : In-loop-v) → get_or c.args.parents.now c.loop-v.v 0 < length c.args.parents.now
unfolding parent
up c = c.requires.0.ready.tree.inside _ c.loop-v-test.true

-- its INLABEL
above : (c : In-loop-v) → Labelled c.args.parents.now c.args.label.now (get_or c.args.parents.now c.loop-v.v 0)
above c = labelled (up c) c.requires.0

-- the cell that is written stands in work
inside : (c : After-place) → c.place.result < work_cells (length c.args.parents.now)
unfolding parent
inside c =
    let here : Labelled c.args.parents.now c.args.label.now c.loop-v.v = labelled c.loop-v-test.true c.requires.0 in
    place_inside c.loop-v-test.true here c.place.ensures

pub loop-v-init : goal.loop-v-init
loop-v-init c =
    heads-start c.requires.0.ready c.fill.ensures (search rules) c.requires.1 (root-here (goal.at.loop-v-init c).Start)

pub place-requires : goal.place-requires
place-requires c = let f = here (goal.at.place-requires c).In-loop-v in (search rules, search rules)

pub loop-v-preserved : goal.loop-v-preserved
unfolding parent
loop-v-preserved c =
    heads-step c.requires.0.ready c.loop-v.invariant c.loop-v-test.true (here (goal.at.loop-v-preserved c).In-loop-v)
    (above (goal.at.loop-v-preserved c).In-loop-v) c.place.ensures

pub returns : goal.returns
returns c =
    let l = c.loop-v in
    let e : l.v ≡ length c.args.parents.now = omega arith in
    column-same _ _ _ 5 (lit< tt) (heads-end c.requires.0.ready (rw e at l.invariant))

pub overflow_cast-work : goal.overflow_cast-work
overflow_cast-work c = let b = root_below (goal.at.overflow_cast-work c).Start in search rules

pub overflow_add-work : goal.overflow_add-work
overflow_add-work c = let b = root_below (goal.at.overflow_add-work c).Start in search rules

pub offset_bounds-label-n : goal.offset_bounds-label-n
offset_bounds-label-n c = let b = root_below (goal.at.offset_bounds-label-n c).Start in search rules

pub bounds-label-n : goal.bounds-label-n
bounds-label-n c = let b = root_below (goal.at.bounds-label-n c).Start in search rules

pub bounds-work-n : goal.bounds-work-n
bounds-work-n c = let f = root-here (goal.at.bounds-work-n c).Start in search rules

pub bounds-label-n-in-loop-v-2 : goal.bounds-label-n-in-loop-v-2
bounds-label-n-in-loop-v-2 c = let f = up (goal.at.bounds-label-n-in-loop-v-2 c).In-loop-v in search rules

pub bounds-work-place : goal.bounds-work-place
bounds-work-place c = let b = inside c in search rules
