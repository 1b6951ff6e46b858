-- `lines::form::pair` meets its contract: its two numbers are read between its words.
-- Assumes nothing.
use Rattle.std.proofs.Common.{refl}
use Rattle.text.specs.Bytes.{bytes}
use Rattle.lines.specs.Read.{pair_form}
use Rattle.lines.proofs.ReadingSteps.{stops, goes_on}
use Rattle.lines.proofs.form.pair.Goals as goal

-- they are not there
pub returns-in_err-x : goal.returns-in_err-x
unfolding pair_form bytes
returns-in_err-x c = rw c.from_residual.ensures (stops _ c.in_err-x.ensures)

-- they are
pub returns : goal.returns
unfolding pair_form bytes
returns c = goes_on _ c.in_ok-x.ensures refl
