-- `leaves::take::next` meets its contract.
-- Assumes nothing.
use mathlib.Core.Path.{refl}
use borrow.Author.Tests.{lt-ltb, le-ltb}
use Rattle.leaves.proofs.take.next.Goals as goal

pub returns-then-place-found : goal.returns-then-place-found
returns-then-place-found c = rw (lt-ltb _ _ c.if-place-found.true) refl

pub returns-else-place-found : goal.returns-else-place-found
returns-else-place-found c = rw (le-ltb _ _ c.if-place-found.false) refl
