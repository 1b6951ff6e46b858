-- `lines::form::many` meets its contract: the form's parts are looked for one behind the other.
-- Assumes nothing.
use Rattle.text.specs.Bytes.{bytes}
use Rattle.text.proofs.Finding.{word-there, no-word}
use Rattle.lines.specs.Gives.{form_of}
use Rattle.lines.specs.Read.{many_form}
use Rattle.lines.specs.declared.form.Question.TheVariants.{Many}
use Rattle.lines.specs.declared.form.Line.TheVariants.{Asked}
use Rattle.lines.proofs.ReadingSteps.{stops, goes_on, read_whole}
use Rattle.lines.proofs.form.many.Goals as goal

-- no word begins the line
pub returns-in_err-rest : goal.returns-in_err-rest
unfolding many_form bytes
returns-in_err-rest c = rw c.from_residual.ensures (stops _ (no-word _ _ c.in_err-rest.ensures.cases))

-- the numbers behind it are none of a list
pub returns-in_err-numbers : goal.returns-in_err-numbers
unfolding many_form bytes
returns-in_err-numbers c =
    rw c.from_residual-in_err-numbers.ensures (goes_on _ (word-there _ _ c.in_ok-rest.rest c.in_ok-rest.ensures.cases) (stops _ c.in_err-numbers.ensures))

-- no bracket is behind them
pub returns-in_err-rest-2 : goal.returns-in_err-rest-2
unfolding many_form bytes
returns-in_err-rest-2 c =
    let last = stops _ (no-word _ _ c.in_err-rest-2.ensures.cases) in
    rw c.from_residual-in_err-rest-2.ensures (goes_on _ (word-there _ _ c.in_ok-rest.rest c.in_ok-rest.ensures.cases) (goes_on _ c.in_ok-numbers.ensures last))

-- the line ends there, or other bytes follow
pub returns : goal.returns
unfolding many_form bytes
returns c =
    let last = read_whole form_of c.in_ok-rest-2.rest.now (Asked (Many c.in_ok-numbers.numbers)) c.is_empty.ensures in
    let bracket = goes_on _ (word-there _ _ c.in_ok-rest-2.rest c.in_ok-rest-2.ensures.cases) last in
    rw c.then_some.ensures (goes_on _ (word-there _ _ c.in_ok-rest.rest c.in_ok-rest.ensures.cases) (goes_on _ c.in_ok-numbers.ensures bracket))
