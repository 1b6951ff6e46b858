-- `bits::log2` meets its contract: of x's 16 digits the zeros above its highest one bit, that bit and those below it are all; 0 has none.
-- Assumes nothing.
use Rattle.std.proofs.Common.{◌≡◌, ◌+◌, suc, arith}
use Rattle.std.proofs.Math.Nat.{pos_of_ne-zero}
use Rattle.std.specs.Int.Count.{count_leading_zeros, leading_top}
use Rattle.bits.specs.Bits.{log2}
use Rattle.bits.proofs.Log.{log2-le, log2-unique}
use Rattle.bits.proofs.log2.Goals as goal

pub returns-then-x-eq0 : goal.returns-then-x-eq0
returns-then-x-eq0 c = let none = c.if-x-eq0.true in omega (arith, log2-le c.args.x 0 (omega arith))

-- the zeros above the highest one bit, that bit and the places below it
digits : (c : goal.Else-x-eq0) → count_leading_zeros 16 c.args.x + suc (log2 c.args.x) ≡ 16
digits c =
    let x = c.args.x in
    let (j, all, low, high) = leading_top 16 x (pos_of_ne-zero c.if-x-eq0.false) c.ranges.x.fits in
    rw (log2-unique x j low high) all

pub returns : goal.returns
returns c = omega (arith, digits c)
