-- `tables::fill::order` meets its contract: the order is made in work and copied out.
-- Assumes nothing.
use native.Mathlib.Omega.{arith}
use mathlib.Core.Path.{◌∙◌}
use Rattle.tree.proofs.Columns.{columns-fewer}
use Rattle.tree.proofs.Sizes.{preorder-length}
use Rattle.tables.proofs.Sections.{copied-whole}
use Rattle.tables.proofs.fill.order.Goals as goal

pub order-requires : goal.order-requires
order-requires c = columns-fewer (omega arith) c.requires.0

pub copy-requires : goal.copy-requires
copy-requires c =
    let room = c.requires.0.ready.room in
    let cells = c.requires.1 in
    let kept = c.order.auto.work in
    (omega arith, omega arith)

pub returns : goal.returns
returns c =
    copied-whole c.copy.ensures c.order.ensures (c.copy.auto.to ∙ c.requires.1) (preorder-length c.requires.0.ready.tree)
