-- `rules::blocks::shallowest` meets its contract: the cells read are those of the nodes that the two blocks show.
-- Assumes nothing.
use mathlib.Core.Path.{sym, ◌∙◌}
use Rattle.rules.proofs.TourCells.{Shown, shown}
use Rattle.rules.proofs.blocks.shallowest.Goals as goal
use Rattle.rules.proofs.blocks.shallowest.Goals.{After-cover-left}

-- what the two blocks show
facts : (c : After-cover-left) → Shown c.args.sheet.now c.tour-tour.result.now c.args.i c.args.j c.cover-left.result
facts c = let p = c.requires in shown p.0 c.tour-tour.ensures p.1 p.2 c.cover-left.ensures

pub nearer-requires : goal.nearer-requires
nearer-requires c =
    let d = facts (goal.at.nearer-requires c).After-cover-left in
    record { small = c.requires.0; left = d.left.node; right = d.right.node }

pub returns : goal.returns
returns c = let r = c.nearer.ensures in record { is = r.is ∙ sym (facts (goal.at.returns c).After-cover-left).answer; below = r.below }

pub bounds-tour-left : goal.bounds-tour-left
bounds-tour-left c = (facts (goal.at.bounds-tour-left c).After-cover-left).left.room

pub bounds-tour-right : goal.bounds-tour-right
bounds-tour-right c = (facts (goal.at.bounds-tour-right c).After-cover-left).right.room
