-- `lines::form::two_numbers` meets its contract: the words and the numbers are looked for one behind the other.
-- Assumes nothing.
use Rattle.std.proofs.Common.{ℕ}
use Rattle.text.proofs.Finding.{word-there, no-word}
use Rattle.lines.specs.Read.{two_numbers}
use Rattle.lines.proofs.ReadingSteps.{stops, goes_on, read_whole}
use Rattle.lines.proofs.form.two_numbers.Goals as goal

-- the first word does not begin the line
pub returns-in_err-rest : goal.returns-in_err-rest
unfolding two_numbers
returns-in_err-rest c = rw c.from_residual.ensures (stops _ (no-word _ _ c.in_err-rest.ensures.cases))

-- no number is behind it
pub returns-in_err-x : goal.returns-in_err-x
unfolding two_numbers
returns-in_err-x c = rw c.from_residual-in_err-x.ensures (goes_on _ (word-there _ _ c.in_ok-rest.rest c.in_ok-rest.ensures.cases) (stops _ c.in_err-x.ensures))

-- no second number is behind that
pub returns-in_err-y : goal.returns-in_err-y
unfolding two_numbers
returns-in_err-y c =
    let first = word-there _ _ c.in_ok-rest.rest c.in_ok-rest.ensures.cases in
    rw c.from_residual-in_err-y.ensures (goes_on _ first (goes_on _ c.in_ok-x.ensures (stops _ c.in_err-y.ensures)))

-- the line ends there, or other bytes follow
pub returns : goal.returns
unfolding two_numbers
returns c =
    let first = word-there _ _ c.in_ok-rest.rest c.in_ok-rest.ensures.cases in
    let last = read_whole (λ (two : ℕ × ℕ). two) c.in_ok-y.rest.now (c.in_ok-x.x, c.in_ok-y.y) c.is_empty.ensures in
    rw c.then_some.ensures (goes_on _ first (goes_on _ c.in_ok-x.ensures (goes_on _ c.in_ok-y.ensures last)))
