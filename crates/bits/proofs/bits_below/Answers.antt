-- `bits::bits_below` meets its contract: 1 shifted up by i is 2 ^ i, so the mask is the i low digits; x has no more than 16. Assumes nothing.
use Rattle.std.proofs.Common.{sym, arith}
use Rattle.std.proofs.Math.Nat.{mod-eq_of_lt, lt_of_lt_of_le}
use Rattle.std.proofs.Math.Pow.{pow_mono}
use Rattle.std.specs.Int.Bits.{and_mask}
use Rattle.bits.specs.Bits.{bits_below}
use Rattle.bits.proofs.Ones.{one_shifted}
use Rattle.bits.proofs.bits_below.Goals as goal

pub returns-then-i-gt15 : goal.returns-then-i-gt15
unfolding bits_below
returns-then-i-gt15 c = sym (mod-eq_of_lt (lt_of_lt_of_le c.ranges.x.fits (pow_mono c.if-i-gt15.true)))

pub returns : goal.returns
unfolding bits_below
returns c = rw (one_shifted 16 c.args.i (omega arith)) (and_mask c.args.x c.args.i)
