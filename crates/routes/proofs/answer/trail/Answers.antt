-- `routes::answer::trail` meets its contract: rows stored in cells that all hold 65535 are a trail's buffer.
-- Assumes nothing.
use native.Mathlib.Omega.{arith}
use mathlib.Core.Path.{ap, ◌∙◌}
use mathlib.Core.List.{[], ◌∷◌}
use lib.ListN.{replicate}
use Rattle.tree.specs.Buffers.{no_cell}
use Rattle.tree.proofs.ByLifts.{trail_fits_lem}
use Rattle.lifting.proofs.Raising.{trail-end, trail-count, stored-trail}
use Rattle.routes.proofs.Giving.{one-stored}
use Rattle.routes.proofs.answer.trail.Goals as goal

pub node-x-requires : goal.node-x-requires
node-x-requires c = omega (arith, c.requires.1)

pub node-y-requires : goal.node-y-requires
node-y-requires c = omega (arith, c.requires.1)

pub trail-end-requires : goal.trail-end-requires
trail-end-requires c =
    (rw (c.node-x.ensures, c.node-y.ensures) c.requires.0, c.fill_all.auto.cells ∙ c.requires.3)

pub returns : goal.returns
returns c =
    let r = rw (c.node-x.ensures, c.node-y.ensures) at c.trail-end.ensures in
    let blank = c.fill_all.ensures ∙ ap (λ k. replicate k no_cell) c.requires.3 in
    let short = trail_fits_lem c.args.sheet.now c.requires.0.small.most _ _ in (
      trail-count r,
      one-stored c.args.answer.now _ c.requires.2 ∙ ap (λ x. x ∷ []) (trail-end r).is,
      r.cells ∙ rw blank (stored-trail _ short),
    )
