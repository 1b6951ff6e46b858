-- `rules::by_tour` meets its contract: the positions read are the first positions of both nodes.
-- Assumes nothing.
use native.Mathlib.Omega.{arith}
use mathlib.Core.Path.{◌∙◌}
use Rattle.tree.specs.Routes.{by_tour}
use Rattle.rules.proofs.TourCells.{First, first}
use Rattle.rules.proofs.by_tour.Goals as goal
use Rattle.rules.proofs.by_tour.Goals.{After-len}

-- the first positions of both nodes
facts : (c : After-len) → First c.args.sheet.now c.tour-tour.result.now c.args.x × First c.args.sheet.now c.tour-tour.result.now c.args.y
facts c =
    let p = c.requires in
    let t = p.small.tree in
    (first t c.tour-tour.ensures p.left, first t c.tour-tour.ensures p.right)

pub shallowest-requires : goal.shallowest-requires
shallowest-requires c =
    let (a, b) = facts (goal.at.shallowest-requires c).After-len in
    (c.requires.small, omega arith, rw (c.max.ensures, c.len.ensures) (omega (arith, a.position, b.position)))

pub returns : goal.returns
unfolding by_tour
returns c =
    let (a, b) = facts (goal.at.returns c).After-len in
    let r = c.shallowest.ensures in
    record { is = r.is ∙ rw (c.min.ensures, c.max.ensures, c.len.ensures, a.is, b.is); below = r.below }

pub bounds-tour-m : goal.bounds-tour-m
bounds-tour-m c = let (a, b) = facts (goal.at.bounds-tour-m c).After-len in omega (arith, a.room)

pub bounds-tour-m-2 : goal.bounds-tour-m-2
bounds-tour-m-2 c = let (a, b) = facts (goal.at.bounds-tour-m-2 c).After-len in omega (arith, b.room)
