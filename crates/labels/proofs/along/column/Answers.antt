-- `labels::along::column` meets its contract: the column is made for the first i nodes of the preorder.
-- Assumes nothing.
use native.Mathlib.Omega.{arith}
use mathlib.Core.Path.{◌≡◌, sym, ap, ◌∙◌}
use lib.ListN.{length, get_or}
use Rattle.tree.specs.Tree.{parent}
use Rattle.tree.specs.Labels.{label_column}
use Rattle.tree.proofs.Trees.{root-found}
use Rattle.tree.proofs.Columns.{column-same}
use Rattle.labels.proofs.InOrder.{Below, turn, along-root, along-below, along-start, along-step, along-end}
use Rattle.labels.proofs.along.column.Goals as goal
use Rattle.labels.proofs.along.column.Goals.{In-loop-i}

-- node i, and what its parent has
here : (g : _) (c : In-loop-i g) → Below c.args.parents.now c.loop-i.work (label_column c.args.parents.now g.S.Step.COLUMN) (get_or c.loop-i.work c.loop-i.i 0)
here g c = along-below c.requires.0.ready.tree c.loop-i.invariant.0 (omega arith) c.loop-i-test.true

pub bounds-work-n : goal.bounds-work-n
bounds-work-n g c =
    let t = c.requires.0.ready.tree in
    let first = (turn t {i = 0} c.requires.1).node (omega (arith, t.root-inside)) in
    omega (arith, c.requires.0.ready.room)

pub loop-i-init : goal.loop-i-init
loop-i-init g c =
    let cs = c.requires.0 in
    let t = cs.ready.tree in
    let f = label_column c.args.parents.now g.S.Step.COLUMN in
    let y = c.top.ensures ∙ g.S.Step.laws.root cs ∙ ap f (sym (along-root t c.requires.1 ∙ root-found t)) in
    let a = along-step t (along-start t f cs.ready.room c.requires.1) (omega (arith, t.root-inside)) y in
    (a, turn t a.order)

pub more-more-requires : goal.more-more-requires
more-more-requires g c =
    let b = here g (goal.at.more-more-requires g c).In-loop-i in
    record { small = c.requires.0.ready.small; cells = c.requires.0.cells; node = b.node; above = b.up }

pub loop-i-preserved : goal.loop-i-preserved
unfolding parent
loop-i-preserved g c =
    let cs = c.requires.0 in
    let t = cs.ready.tree in
    let b = here g (goal.at.loop-i-preserved g c).In-loop-i in
    let y = g.S.Step.laws.rises cs _ b.node b.child in
    let a = along-step t c.loop-i.invariant.0 c.loop-i-test.true (rw (b.above, c.more-more.ensures) (sym y)) in
    (a, turn t a.order)

pub overflow_add-work-in-loop-i-2 : goal.overflow_add-work-in-loop-i-2
unfolding parent
overflow_add-work-in-loop-i-2 g c =
    let cs = c.requires.0 in
    let b = here g (goal.at.overflow_add-work-in-loop-i-2 g c).In-loop-i in
    let y = g.S.Step.laws.rises cs _ b.node b.child in
    let fits = g.S.Step.laws.fits cs _ b.node in
    rw (b.above, c.more-more.ensures) (omega arith)

pub returns : goal.returns
returns g c =
    let l = c.loop-i in
    let e : l.i ≡ length c.args.parents.now = omega arith in
    column-same _ _ _ _ g.S.Step.laws.column (along-end c.requires.0.ready.tree (rw e at l.invariant.0))
