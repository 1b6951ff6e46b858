-- `text::read::find_number_then` meets its contract: a number, and then a word.
-- Assumes nothing.
use Rattle.text.proofs.Finding.{word-there, no-word, then-no-number, then-no-word, then-word}
use Rattle.text.proofs.read.find_number_then.Goals as goal

-- there is no number
pub returns-in_err-n : goal.returns-in_err-n
returns-in_err-n c = rw c.from_residual.ensures (then-no-number _ _ c.in_err-n.ensures)

-- no word stands behind it
pub returns-in_err-rest : goal.returns-in_err-rest
returns-in_err-rest c = rw c.from_residual-in_err-rest.ensures (then-no-word _ _ c.in_ok-n.ensures (no-word _ _ c.in_err-rest.ensures.cases))

-- the word stands there
pub returns : goal.returns
returns c = then-word _ _ c.in_ok-n.ensures (word-there _ _ c.in_ok-rest.rest c.in_ok-rest.ensures.cases)
