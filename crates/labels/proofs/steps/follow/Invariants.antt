-- `labels::steps::follow` meets its contract: where no bit is gathered, the column follows the parents' to each node before v.
-- Assumes nothing.
use mathlib.Core.Path.{◌≡◌}
use Rattle.labels.specs.Steps.{Follows}
use Rattle.labels.proofs.steps.follow.Given as goal

abbrev pub invariant-loop-v : goal.invariant-loop-v
invariant-loop-v g l = let s = g.S.Step in (l.bits ≡ 0 → Follows l.parents l.label s.COLUMN (s.more l.parents l.label) l.first l.v)
