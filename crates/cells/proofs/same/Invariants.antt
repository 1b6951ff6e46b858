-- `cells::same` meets its contract: where no bit is gathered, the i cells passed are the same.
-- Assumes nothing.
use mathlib.Core.Path.{◌≡◌}
use Rattle.tree.specs.Sections.{Same}
use Rattle.cells.proofs.same.Given as goal

abbrev pub invariant-loop-i : goal.invariant-loop-i
invariant-loop-i l = (l.bits ≡ 0 → Same l.a l.at l.b l.start l.i)
