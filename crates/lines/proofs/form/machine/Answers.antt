-- `lines::form::machine` meets its contract: the form's parts are looked for one behind the other.
-- Assumes nothing.
use Rattle.text.specs.Bytes.{bytes}
use Rattle.text.proofs.Finding.{word-there, no-word}
use Rattle.lines.specs.Gives.{form_of}
use Rattle.lines.specs.Read.{machine_form}
use Rattle.lines.specs.declared.form.Line.TheVariants.{Machine}
use Rattle.lines.proofs.ReadingSteps.{stops, goes_on, read_whole}
use Rattle.lines.proofs.form.machine.Goals as goal

-- no word begins the line
pub returns-in_err-rest : goal.returns-in_err-rest
unfolding machine_form bytes
returns-in_err-rest c = rw c.from_residual.ensures (stops _ (no-word _ _ c.in_err-rest.ensures.cases))

-- no number is behind it
pub returns-in_err-n : goal.returns-in_err-n
unfolding machine_form bytes
returns-in_err-n c = rw c.from_residual-in_err-n.ensures (goes_on _ (word-there _ _ c.in_ok-rest.rest c.in_ok-rest.ensures.cases) (stops _ c.in_err-n.ensures))

-- the line ends there, or other bytes follow
pub returns : goal.returns
unfolding machine_form bytes
returns c =
    let last = read_whole form_of c.in_ok-n.rest.now (Machine c.in_ok-n.n) c.is_empty.ensures in
    rw c.then_some.ensures (goes_on _ (word-there _ _ c.in_ok-rest.rest c.in_ok-rest.ensures.cases) (goes_on _ c.in_ok-n.ensures last))
