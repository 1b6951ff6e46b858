-- `labels::heads` meets its contract: HEAD is found of the numbers that have none, or the root, or a node below v.
-- Assumes nothing.
use Rattle.labels.proofs.Tops.{Heads, Seen}
use Rattle.labels.proofs.heads.Given as goal

abbrev pub invariant-loop-v : goal.invariant-loop-v
invariant-loop-v l = Heads l.parents l.work (Seen l.parents l.v)
