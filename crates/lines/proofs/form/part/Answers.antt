-- `lines::form::part` meets its contract: its two numbers are read between its words.
-- Assumes nothing.
use Rattle.std.proofs.Common.{refl}
use Rattle.text.specs.Bytes.{bytes}
use Rattle.lines.specs.Read.{part_form}
use Rattle.lines.proofs.ReadingSteps.{stops, goes_on}
use Rattle.lines.proofs.form.part.Goals as goal

-- they are not there
pub returns-in_err-v : goal.returns-in_err-v
unfolding part_form bytes
returns-in_err-v c = rw c.from_residual.ensures (stops _ c.in_err-v.ensures)

-- they are
pub returns : goal.returns
unfolding part_form bytes
returns c = goes_on _ c.in_ok-v.ensures refl
