-- `bits::lowest_one` meets its contract: 0 has no one bit, and of any other x the digits in common with x - 1 are all but the lowest one.
-- Assumes nothing.
use Rattle.std.proofs.Math.Nat.{pos_of_ne-zero}
use Rattle.std.proofs.Common.{eq-eqb, ne_eqb}
use Rattle.bits.specs.Bits.{lowest_one}
use Rattle.bits.proofs.Zeros.{lowest}
use Rattle.bits.proofs.lowest_one.Goals as goal

pub returns-then-x-eq0 : goal.returns-then-x-eq0
unfolding lowest_one
returns-then-x-eq0 c = rw (eq-eqb c.args.x 0 c.if-x-eq0.true)

pub returns : goal.returns
unfolding lowest_one
returns c = rw (ne_eqb c.args.x 0 c.if-x-eq0.false) (lowest c.args.x (pos_of_ne-zero c.if-x-eq0.false))
