-- `lifting::meet::meeting` meets its contract: the steps that are left until both parts stand right under the carrier are fewer than 2^k.
-- Assumes nothing.
use mathlib.Core.List.{[], ◌∷◌}
use Rattle.tree.specs.Lca.{lca}
use Rattle.lifting.specs.Stored.{row_of}
use Rattle.lifting.proofs.Meeting.{Nearing}
use Rattle.lifting.proofs.meet.meeting.Given as goal

abbrev pub invariant-loop-k : goal.invariant-loop-k
invariant-loop-k l = Nearing l.sheet (lca l.sheet (l.fn.start.x ∷ l.fn.start.y ∷ [])) l.k (row_of l.pair)
