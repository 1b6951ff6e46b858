-- `preorder::numbers` meets its contract: the links are made, and the walk follows them.
-- Assumes nothing.
use Rattle.tree.proofs.Columns.{ready-kept}
use Rattle.preorder.proofs.numbers.Goals as goal

pub walk-requires : goal.walk-requires
walk-requires c =
    let k = c.link in
    record { ready = ready-kept c.requires.0 k.auto.work; is = c.requires.1; links = k.ensures }
