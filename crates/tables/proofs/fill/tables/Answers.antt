-- `tables::fill::tables` meets its contract: the tables are filled one after the other.
-- Assumes nothing.
use mathlib.Core.Path.{ap, ◌∙◌}
use lib.ListN.{replicate}
use Rattle.tree.proofs.Columns.{ready-kept, own-columns}
use Rattle.tables.proofs.fill.tables.Goals as goal

pub label-requires : goal.label-requires
label-requires c = (c.requires.ready, c.requires.label_length)

pub tour-requires : goal.tour-requires
tour-requires c =
    let f = c.requires in
    (own-columns c.label.ensures (ready-kept f.ready c.label.auto.work), f.tour_length)

pub lift-requires : goal.lift-requires
lift-requires c =
    let f = c.requires in
    (ready-kept f.ready (c.tour.auto.work ∙ c.label.auto.work), f.lift_length)

pub order-requires : goal.order-requires
order-requires c =
    let f = c.requires in
    let same = c.lift.auto.work ∙ c.tour.auto.work ∙ c.label.auto.work in
    (own-columns c.label.ensures (ready-kept f.ready same), f.order_length)

pub returns : goal.returns
returns c =
    let same =
    c.order.auto.work ∙ c.lift.auto.work ∙ c.tour.auto.work ∙ c.label.auto.work ∙ c.requires.ready.room in
    record {
      label = c.label.ensures;
      tour = c.tour.ensures;
      lift = c.lift.ensures;
      order = c.order.ensures;
      work = c.clear.ensures ∙ ap (λ k. replicate k 0) same;
    }
