-- `labels::steps::hold` meets its contract: the column is looked at at the root, below it and above it.
-- Assumes nothing.
use native.Mathlib.Omega.{arith}
use Prim.Native.Nat.{◌+◌, ◌*◌, ◌<◌}
use mathlib.Core.Path.{◌≡◌, sym, ◌∙◌}
use mathlib.Core.Bool.{true}
use borrow.Author.Tests.{eqb-true}
use lib.ListN.{length, get_or}
use Rattle.labels.specs.Steps.{Follows}
use Rattle.labels.proofs.Stepping.{root-cells, steps_low, steps_high, steps-own, column-room}
use Rattle.labels.proofs.steps.hold.Goals as goal
use Rattle.labels.proofs.steps.hold.Goals.{After-COLUMN, Joined-label-COLUMN, then-label-COLUMN, else-label-COLUMN}

-- the root's cell stands in the table
room : (g : _) (c : After-COLUMN g) → c.COLUMN.result * length c.args.parents.now + c.args.root < 6 * length c.args.parents.now
room g c =
    let fits = column-room g.S.Step.COLUMN (length c.args.parents.now) g.S.Step.laws.column in
    let d = root-cells c.requires in
    rw c.COLUMN.ensures (omega (arith, d.node))

pub overflow_add-COLUMN : goal.overflow_add-COLUMN
overflow_add-COLUMN g c = let r = room g c in omega (arith, c.requires.0.ready.small)

pub offset_bounds-label-COLUMN : goal.offset_bounds-label-COLUMN
offset_bounds-label-COLUMN g c = let r = room g (goal.at.offset_bounds-label-COLUMN g c).After-COLUMN in omega (arith, c.requires.0.ready.small)

pub bounds-label-COLUMN : goal.bounds-label-COLUMN
bounds-label-COLUMN g c = let r = room g (goal.at.bounds-label-COLUMN g c).After-COLUMN in omega (arith, c.requires.0.cells)

pub follow-requires : goal.follow-requires
follow-requires g c = steps_low c.requires

pub overflow_add-root : goal.overflow_add-root
overflow_add-root g c = let d = root-cells c.requires in omega (arith, d.node, c.requires.0.ready.small)

pub follow-requires-then-follow : goal.follow-requires-then-follow
follow-requires-then-follow g c = steps_high c.requires

-- the root's cell is right, and those of the nodes below it
low : (g : _) (c : Joined-label-COLUMN g) → c.if-label-COLUMN.value ≡ true
    → (get_or c.args.label.now (c.COLUMN.result * length c.args.parents.now + c.args.root) 0 ≡ c.top.result)
    × Follows c.args.parents.now c.args.label.now g.S.Step.COLUMN (g.S.Step.more c.args.parents.now c.args.label.now) 0 c.args.root
low g c e =
    elim c.if-label-COLUMN.branch [
      | then-label-COLUMN w ↦ (w.if-label-COLUMN.true, w.follow.ensures (sym w.value-is ∙ e))
      | else-label-COLUMN w ↦ absurd (w.if-label-COLUMN.false (eqb-true _ _ (sym w.value-is ∙ e)))
    ]

pub returns-then-follow : goal.returns-then-follow
returns-then-follow g c =
    λ e.
    let below = low g (goal.at.returns-then-follow g c).Joined-label-COLUMN c.if-follow.true in
    let top = rw c.COLUMN.ensures at below.0 in
    steps-own g.S.Step.laws c.requires (top ∙ c.top.ensures) below.1 (c.follow-then-follow.ensures e)
