-- `lines::machine::admit` meets its contract: the two tests decide.
-- Assumes nothing.
use Rattle.std.proofs.Common.{arith}
use Rattle.lines.proofs.Opening.{admit-empty, admit-large, admit-parts}
use Rattle.lines.proofs.machine.admit.Goals as goal

-- the machine has no part
pub returns-then-n-eq0 : goal.returns-then-n-eq0
returns-then-n-eq0 c = admit-empty c.if-n-eq0.true

-- it has too many
pub returns-then-n-gt-MOST : goal.returns-then-n-gt-MOST
returns-then-n-gt-MOST c = admit-large (omega arith)

-- it has some
pub returns : goal.returns
returns c = admit-parts (omega arith) (omega arith)
