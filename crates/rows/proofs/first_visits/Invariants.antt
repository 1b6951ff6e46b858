-- `rows::first_visits` meets its contract: the first v cells of work are the first positions of the nodes below v.
-- Assumes nothing.
use lib.ListN.{length}
use Rattle.tree.specs.Buffers.{visits}
use Rattle.tree.specs.Tour.{tour_table}
use Rattle.tree.specs.Sections.{Same}
use Rattle.rows.proofs.first_visits.Given as goal

abbrev pub invariant-loop-v : goal.invariant-loop-v
invariant-loop-v l = Same l.work 0 (tour_table l.parents) (visits (length l.parents)) l.v
