-- `preorder::sums::add` meets its contract: the sums are those over the nodes before v, and where no bit is gathered, PREORDER follows them so far.
-- Assumes nothing.
use mathlib.Core.Path.{◌≡◌}
use Rattle.preorder.specs.Sums.{Sums, Numbered}
use Rattle.preorder.proofs.sums.add.Given as goal

abbrev pub invariant-loop-v : goal.invariant-loop-v
invariant-loop-v l = Sums l.parents l.label l.work l.v × (l.bits ≡ 0 → Numbered l.parents l.label l.first l.v)
