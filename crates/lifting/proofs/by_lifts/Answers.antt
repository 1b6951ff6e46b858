-- `lifting::by_lifts` meets its contract: the levelled pair has the carrier of the pair asked for, and the route's answer is that carrier.
-- Assumes nothing.
use mathlib.Core.Path.{◌∙◌}
use Rattle.lifting.proofs.Meeting.{same-part, lca-answers}
use Rattle.lifting.proofs.by_lifts.Goals as goal

pub returns-then-level : goal.returns-then-level
returns-then-level c =
    let (pair, equal, carrier) = c.levelled-level.ensures in
    lca-answers c.requires (same-part pair c.if-level.true ∙ carrier) pair.left

pub returns : goal.returns
returns c =
    let (pair, equal, carrier) = c.levelled-level.ensures in
    let r = c.meeting.ensures in
    lca-answers c.requires (r.is ∙ carrier) r.below
