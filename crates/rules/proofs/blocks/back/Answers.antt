-- `rules::blocks::back` meets its contract: the stretch that is covered goes from x's first visit to c's last, and the block that shows c shows where the tour
-- comes back to it.
-- Assumes nothing.
use native.Mathlib.Omega.{arith}
use Prim.Native.Nat.{◌+◌, ◌-◌, ◌*◌}
use mathlib.Core.Path.{◌≡◌, sym, ◌∙◌}
use lib.ListN.{get_or}
use Rattle.tree.specs.Preorder.{first_visit}
use Rattle.rules.specs.Tour.{last_visit}
use Rattle.rules.proofs.TourCells.{Visited, visited}
use Rattle.rules.proofs.TourBranches.{Stretch, stretch, left_back, right-back}
use Rattle.rules.proofs.blocks.back.Goals as goal
use Rattle.rules.proofs.blocks.back.Goals.{After-len-n, After-cover-left}

-- the cells that are read
facts : (c : After-len-n) → Stretch c.args.sheet.now c.label-label.result.now c.tour-tour.result.now c.args.c c.args.x
facts c = stretch c.requires c.label-label.ensures c.tour-tour.ensures

-- the ends of the stretch
first-is : (c : After-len-n) → first_visit c.args.sheet.now c.args.x ≡ get_or c.tour-tour.result.now (2 * c.len-n.result - 1 + c.args.x) 0
first-is c = rw c.len-n.ensures (sym (facts c).begins.visit)

last-is : (c : After-len-n) →
    last_visit c.args.sheet.now c.args.c
    ≡ get_or c.tour-tour.result.now (2 * c.len-n.result - 1 + c.args.c) 0 + 2 * get_or c.label-label.result.now (c.len-n.result + c.args.c) 0 - 2
last-is c = let d = facts c in rw c.len-n.ensures (omega (arith, d.whole.visit, d.count))

-- the node that the left block shows
left-node : (c : After-cover-left) → Visited c.args.sheet.now c.tour-tour.result.now c.cover-left.result.left
left-node c = visited c.requires.small.tree c.tour-tour.ensures c.cover-left.ensures.left-inside

pub cover-left-requires : goal.cover-left-requires
cover-left-requires c =
    let d = facts (goal.at.cover-left-requires c).After-len-n in
    let first = first-is (goal.at.cover-left-requires c).After-len-n in
    let last = last-is (goal.at.cover-left-requires c).After-len-n in
    (c.requires.small, omega (arith, d.upto), omega (arith, d.inside))

pub returns-then-tour-left : goal.returns-then-tour-left
returns-then-tour-left c =
    let below = c.requires in
    left_back below.small.tree below.node below.carries below.other (first-is (goal.at.returns-then-tour-left c).After-len-n)
    (last-is (goal.at.returns-then-tour-left c).After-len-n) c.cover-left.ensures
    (sym (left-node (goal.at.returns-then-tour-left c).After-cover-left).is ∙ c.if-tour-left.true)

pub returns-else-tour-left : goal.returns-else-tour-left
returns-else-tour-left c =
    let below = c.requires in
    right-back below.small.tree below.node below.carries below.other (first-is (goal.at.returns-else-tour-left c).After-len-n) (last-is (goal.at.returns-else-tour-left c).After-len-n)
    c.cover-left.ensures
    (λ e. c.if-tour-left.false ((left-node (goal.at.returns-else-tour-left c).After-cover-left).is ∙ e))

pub bounds-tour-m : goal.bounds-tour-m
bounds-tour-m c = omega (arith, facts (goal.at.bounds-tour-m c).After-len-n)

pub overflow_add-last : goal.overflow_add-last
overflow_add-last c = omega (arith, facts (goal.at.overflow_add-last c).After-len-n)

pub offset_bounds-tour-m-2 : goal.offset_bounds-tour-m-2
offset_bounds-tour-m-2 c = omega (arith, facts (goal.at.offset_bounds-tour-m-2 c).After-len-n)

pub bounds-tour-m-2 : goal.bounds-tour-m-2
bounds-tour-m-2 c = omega (arith, facts (goal.at.bounds-tour-m-2 c).After-len-n)

pub overflow_add-last-2 : goal.overflow_add-last-2
overflow_add-last-2 c = omega (arith, facts (goal.at.overflow_add-last-2 c).After-len-n)

pub offset_bounds-label-n : goal.offset_bounds-label-n
offset_bounds-label-n c = omega (arith, facts (goal.at.offset_bounds-label-n c).After-len-n)

pub bounds-label-n : goal.bounds-label-n
bounds-label-n c = omega (arith, facts (goal.at.bounds-label-n c).After-len-n)

pub overflow_sub-last : goal.overflow_sub-last
overflow_sub-last c = rw c.len-n.ensures (omega (arith, facts (goal.at.overflow_sub-last c).After-len-n))

pub bounds-tour-left : goal.bounds-tour-left
bounds-tour-left c = (left-node (goal.at.bounds-tour-left c).After-cover-left).room
