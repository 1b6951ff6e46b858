-- `lifting::meet::levelled` meets its contract: the deeper part goes as many steps up as its level is greater.
-- Assumes nothing.
use native.Mathlib.Omega.{arith}
use mathlib.Core.Path.{◌∙◌}
use Rattle.tree.proofs.Trees.{level-below}
use Rattle.lifting.proofs.Meeting.{levelled-pair}
use Rattle.lifting.proofs.meet.levelled.Goals as goal

pub steps_up-requires : goal.steps_up-requires
steps_up-requires c =
    let r = c.deeper_first-gap.ensures in
    let pair = r.pair in
    (pair.small, pair.left, omega (arith, r.deeper, level-below pair.small.tree _ pair.left))

pub returns : goal.returns
returns c =
    let r = c.deeper_first-gap.ensures in
    let (level, equal, carrier) = levelled-pair r.pair _ r.deeper c.steps_up.ensures in
    (level, equal, carrier ∙ r.carrier)
