-- `text::read::number_from` meets its contract: the digits that were read make v, and the others are read from there on.
-- Assumes nothing.
use Rattle.std.proofs.Common.{arith, ◌∙◌}
use Rattle.std.proofs.lemmas.List.{take_rest}
use Rattle.text.proofs.Finding.{number-stops, number-more, number-large}
use Rattle.text.proofs.read.number_from.Goals as goal

-- a digit makes it too large
pub returns-in_err-checked_mul : goal.returns-in_err-checked_mul
returns-in_err-checked_mul c =
    let large = number-large _ c.loop-rest.rest.now (omega arith) (record { low = omega arith; high = omega arith }) (omega (arith, c.in_err-checked_mul.ensures)) in
    rw c.from_residual.ensures (large ∙ c.loop-rest.invariant)

pub returns-in_err-v : goal.returns-in_err-v
returns-in_err-v c =
    let (few, tens) = c.in_ok-checked_mul.ensures in
    let large = number-large _ c.loop-rest.rest.now (omega arith) (record { low = omega arith; high = omega arith }) (omega (arith, c.in_err-v.ensures)) in
    rw c.from_residual-in_err-v.ensures (large ∙ c.loop-rest.invariant)

-- a digit goes on with it
pub loop-rest-preserved : goal.loop-rest-preserved
loop-rest-preserved c =
    let (few, tens) = c.in_ok-checked_mul.ensures in
    let (fits, sum) = c.in_ok-v.ensures in
    let more = number-more _ c.loop-rest.rest.now (omega arith) (record { low = omega arith; high = omega arith }) (take_rest _ 1) (omega arith) (omega arith) in
    more ∙ c.loop-rest.invariant

-- another byte ends it, or the bytes' end
pub returns : goal.returns
returns c = number-stops _ c.loop-rest.rest.now (λ h d. grind arith) ∙ c.loop-rest.invariant
