-- `subtrees::subtree` meets its contract: the stretch that was located is handed back.
-- Assumes nothing.
use mathlib.Core.Path.{refl}
use Rattle.tree.specs.Tables.{lent_in}
use Rattle.subtrees.proofs.Locating.{locate-within, subtree-given}
use Rattle.subtrees.proofs.subtree.Goals as goal

pub slice-requires : goal.slice-requires
slice-requires c =
    locate-within (lent_in c.args.lent) c.args.work.now c.args.part c.args.lent.order refl c.locate-found.ensures

pub returns : goal.returns
returns c =
    subtree-given (lent_in c.args.lent) c.args.work.now c.args.part c.args.lent.order refl c.locate-found.ensures c.slice.ensures
