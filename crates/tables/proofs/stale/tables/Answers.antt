-- `tables::stale::tables` meets its contract: each table is compared, and the next only where it is the sheet's own.
-- Assumes nothing.
use mathlib.Core.Path.{◌∙◌}
use Rattle.tree.proofs.Columns.{ready-kept}
use Rattle.tables.proofs.Columnwise.{columns-all}
use Rattle.tables.proofs.Staleness.{stale-label, stale-tour, stale-lift, stale-order, stale-none}
use Rattle.tables.proofs.stale.tables.Goals as goal

pub returns-then-at-label : goal.returns-then-at-label
returns-then-at-label c = stale-label c.requires c.label-at.ensures c.if-at-label.true

pub tour-at-requires : goal.tour-at-requires
tour-at-requires c =
    let f = c.requires in
    (columns-all (ready-kept f.ready c.label-at.auto.work) f.label_length c.label-at.ensures c.if-at-label.false, f.tour_length)

pub returns-then-at-tour : goal.returns-then-at-tour
returns-then-at-tour c =
    stale-tour c.requires c.label-at.ensures c.if-at-label.false c.tour-at.ensures c.if-at-tour.true

pub lift-at-requires : goal.lift-at-requires
lift-at-requires c =
    let f = c.requires in
    (ready-kept f.ready (c.tour-at.auto.work ∙ c.label-at.auto.work), f.lift_length)

pub returns-then-at-lift : goal.returns-then-at-lift
returns-then-at-lift c =
    stale-lift c.requires c.label-at.ensures c.if-at-label.false c.tour-at.ensures c.if-at-tour.false c.lift-at.ensures
    c.if-at-lift.true

pub order-at-requires : goal.order-at-requires
order-at-requires c =
    let f = c.requires in
    let same = c.lift-at.auto.work ∙ c.tour-at.auto.work ∙ c.label-at.auto.work in
    (columns-all (ready-kept f.ready same) f.label_length c.label-at.ensures c.if-at-label.false, f.order_length)

pub returns-then-at-order : goal.returns-then-at-order
returns-then-at-order c =
    stale-order c.requires c.label-at.ensures c.if-at-label.false c.tour-at.ensures c.if-at-tour.false c.lift-at.ensures
    c.if-at-lift.false c.order-at.ensures c.if-at-order.true

pub returns : goal.returns
returns c =
    stale-none c.requires c.label-at.ensures c.if-at-label.false c.tour-at.ensures c.if-at-tour.false c.lift-at.ensures
    c.if-at-lift.false c.order-at.ensures c.if-at-order.false
