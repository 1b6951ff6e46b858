-- `text::read::find_number` meets its contract: the first byte decides, and the other digits are read by `number_from`.
-- Assumes nothing.
use Rattle.std.proofs.Common.{arith}
use Rattle.std.proofs.lemmas.List.{take_rest}
use Rattle.text.proofs.Finding.{number-zero, number-digit, number-none}
use Rattle.text.proofs.read.find_number.Goals as goal

-- the digit 0 is the whole number
pub returns-in-48 : goal.returns-in-48
returns-in-48 c = number-zero c.args.bytes.now (omega arith) (omega arith) (take_rest _ 1)

-- another digit begins a number, whose other digits are behind it
pub returns-in-49-to-57 : goal.returns-in-49-to-57
returns-in-49-to-57 c =
    number-digit c.args.bytes.now (omega arith) (record { low = omega arith; high = omega arith }) (omega arith) (take_rest _ 1) c.number_from.ensures

-- no number begins with another byte
pub returns-in_default : goal.returns-in_default
returns-in_default c = number-none c.args.bytes.now λ h d. grind arith
