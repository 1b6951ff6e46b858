-- `rules::ends` meets its contract: the first and the last of the members passed stand, and what is left of the list decides.
-- Assumes nothing.
use Prim.Native.Nat.{◌+◌}
use Rattle.rules.proofs.Scanned.{Scanned}
use Rattle.rules.proofs.ends.Given as goal

abbrev pub invariant-loop-part : goal.invariant-loop-part
invariant-loop-part l = Scanned l.sheet l.question l.first l.last (l.part-index + 1)
