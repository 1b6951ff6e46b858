-- `text::read::first_line` meets its contract: the first LF is looked for.
-- Assumes nothing.
use Rattle.std.proofs.Common.{sym, ◌∙◌}
use Rattle.text.proofs.Ends.{ends_at, ends_nowhere}
use Rattle.text.proofs.read.first_line.Goals as goal

-- there is none
pub returns-in_err-end : goal.returns-in_err-end
returns-in_err-end c = rw c.from_residual.ensures (ends_nowhere _ (sym c.first_lf.ensures ∙ c.in_err-end.was))

-- it ends the line
pub returns : goal.returns
returns c = ends_at _ _ (sym c.first_lf.ensures ∙ c.in_ok-end.was)
