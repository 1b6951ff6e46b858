-- `bits::clear_below` meets its contract: what is shifted back up is at most x, so no digit is shifted out; x has no more than 16.
-- Assumes nothing.
use Rattle.std.proofs.Common.{◌^◌, sym}
use Rattle.std.proofs.Math.Nat.{lt_of_le_of_lt, lt_of_lt_of_le, div-eq_of_lt, div-mul-le_self, mod-eq_of_lt, zero-mul}
use Rattle.std.proofs.Math.Pow.{pow_mono}
use Rattle.bits.specs.Bits.{clear_below}
use Rattle.bits.proofs.clear_below.Goals as goal

pub returns-then-i-gt15 : goal.returns-then-i-gt15
unfolding clear_below
returns-then-i-gt15 c = rw (div-eq_of_lt (lt_of_lt_of_le c.ranges.x.fits (pow_mono c.if-i-gt15.true))) (sym (zero-mul _))

pub returns : goal.returns
unfolding clear_below
returns c = mod-eq_of_lt (lt_of_le_of_lt (div-mul-le_self c.args.x (2 ^ c.args.i)) c.ranges.x.fits)
