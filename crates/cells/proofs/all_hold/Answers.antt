-- `cells::all_hold` meets its contract: where no bit is gathered, the i cells passed hold the value.
-- Assumes nothing.
use borrow.Author.Count.{below_more}
use Rattle.cells.proofs.Stretches.{no_bits}
use Rattle.cells.proofs.all_hold.Goals as goal

pub loop-i-preserved : goal.loop-i-preserved
loop-i-preserved c = λ z. let none = no_bits _ _ _ z in below_more _ _ (c.loop-i.invariant none.0) none.1
