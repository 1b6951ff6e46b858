-- `leaves::take::leaves` meets its contract: each function begins with what the one before it left in work.
-- Assumes nothing.
use native.Mathlib.Omega.{arith}
use mathlib.Core.Path.{◌∙◌}
use Rattle.leaves.proofs.Naming.{wooded-same, named_start}
use Rattle.leaves.proofs.take.leaves.Goals as goal

pub fill-requires : goal.fill-requires
fill-requires c = let g = c.requires in omega arith

pub count-requires : goal.count-requires
count-requires c = (wooded-same c.requires c.fill.auto.cells, named_start c.fill.ensures.here)

pub unnamed-found-requires : goal.unnamed-found-requires
unnamed-found-requires c = (wooded-same c.requires (c.count.auto.work ∙ c.fill.auto.cells), c.count.ensures)

pub take_eights-waiting-requires : goal.take_eights-waiting-requires
take_eights-waiting-requires c =
    (wooded-same c.requires (c.unnamed-found.auto.work ∙ c.count.auto.work ∙ c.fill.auto.cells), c.unnamed-found.ensures)

pub take_rest-requires : goal.take_rest-requires
take_rest-requires c = (
  wooded-same c.requires (c.take_eights-waiting.auto.work ∙ c.unnamed-found.auto.work ∙ c.count.auto.work ∙ c.fill.auto.cells),
  c.take_eights-waiting.ensures,
)
