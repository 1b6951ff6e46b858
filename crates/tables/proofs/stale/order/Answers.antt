-- `tables::stale::order` meets its contract: the order is made in work and compared.
-- Assumes nothing.
use native.Mathlib.Omega.{arith}
use Rattle.tree.proofs.Columns.{columns-fewer}
use Rattle.tree.proofs.Sizes.{preorder-length}
use Rattle.tables.proofs.Sections.{agree-whole}
use Rattle.tables.proofs.stale.order.Goals as goal

pub order-requires : goal.order-requires
order-requires c = columns-fewer (omega arith) c.requires.0

pub agree-requires : goal.agree-requires
agree-requires c =
    let room = c.requires.0.ready.room in
    let cells = c.requires.1 in
    let kept = c.order.auto.work in
    (omega arith, omega arith)

pub returns : goal.returns
returns c =
    agree-whole c.agree.ensures c.order.ensures (preorder-length c.requires.0.ready.tree)
