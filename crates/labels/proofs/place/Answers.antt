-- `labels::place` meets its contract: the two cases of the definition are the two branches.
-- Assumes nothing.
use borrow.Author.Tests.{eq-eqb, ne_eqb}
use Rattle.labels.proofs.place.Goals as goal

pub returns-then-k-upper : goal.returns-then-k-upper
returns-then-k-upper c = rw (eq-eqb _ _ c.if-k-upper.true)

pub returns-else-k-upper : goal.returns-else-k-upper
returns-else-k-upper c = rw (ne_eqb _ _ c.if-k-upper.false)
