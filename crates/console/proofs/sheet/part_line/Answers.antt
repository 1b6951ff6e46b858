-- `console::sheet::part_line` meets its contract: the next line is taken as the line of its part.
-- Assumes nothing.
use Rattle.lines.specs.Read.{entry}
use Rattle.lines.proofs.Taking.{takes, takes_none}
use Rattle.console.proofs.sheet.part_line.Goals as goal

-- none was read
pub returns-in_err-next : goal.returns-in_err-next
returns-in_err-next c = rw c.from_residual.ensures (takes_none (λ p. p) (entry c.args.v) c.in_err-next.ensures.steps)

-- one was
pub returns : goal.returns
returns c = takes (λ p. p) (entry c.args.v) c.in_ok-next.ensures.steps _ c.entry.ensures
