-- `rooted::root` meets its contract: the root is the lowest part from 0 on that names itself.
-- Assumes nothing.
use mathlib.Core.Path.{sym, ◌∙◌}
use Rattle.tree.proofs.Roots.{root_of-next}
use Rattle.rooted.proofs.root.Goals as goal

pub returns : goal.returns
returns c = c.next_root.ensures ∙ sym (root_of-next _)
