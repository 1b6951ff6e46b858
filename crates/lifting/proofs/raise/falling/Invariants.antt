-- `lifting::raise::falling` meets its contract: the powers below 2^k are left to try.
-- Assumes nothing.
use Prim.Native.Nat.{suc}
use lib.ListN.{length}
use Rattle.bits.specs.Bits.{log2}
use Rattle.tree.specs.Tables.{own}
use Rattle.lifting.specs.Stored.{row}
use Rattle.lifting.proofs.Raising.{Trying}
use Rattle.lifting.proofs.raise.falling.Given as goal

abbrev pub invariant-loop-k : goal.invariant-loop-k
invariant-loop-k g l =
    Trying (g.R.Raise.test (own l.sheet)) (g.R.Raise.raise (own l.sheet)) l.sheet (suc (log2 (length l.sheet))) (row l.fn.start.x l.fn.start.y) l.fn.start.lifts
    l.initial.rows l.rows l.k (row l.at.x l.at.y) l.at.lifts
