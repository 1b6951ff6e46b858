-- `lifting::raise::Deeper::tried` meets its contract: the power is compared with the difference of the levels.
-- Assumes nothing.
use native.Mathlib.Omega.{arith}
use borrow.Author.Tests.{le-leb}
use Rattle.bits.proofs.Ones.{one_shifted}
use Rattle.lifting.proofs.Powers.{few-powers}
use Rattle.lifting.proofs.raise.DeeperRaise.tried.Goals as goal

pub overflow_shl-k : goal.overflow_shl-k
overflow_shl-k c = let few = few-powers c.requires.0.small in omega arith

pub returns-then-k-deeper_first : goal.returns-then-k-deeper_first
returns-then-k-deeper_first c =
    let few = few-powers c.requires.0.small in
    let passes = rw (one_shifted 64 c.args.k (omega arith), c.deeper_first.ensures.difference) at c.if-k-deeper_first.true in
    (le-leb _ _ passes, c.raise_deeper.ensures.0, c.raise_deeper.ensures.1)
