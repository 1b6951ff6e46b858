-- `console::ask::question` meets its contract: the next line is taken as a question.
-- Assumes nothing.
use Rattle.lines.specs.Read.{query}
use Rattle.lines.specs.Gives.{query_of}
use Rattle.lines.proofs.Taking.{takes, takes_none}
use Rattle.console.proofs.ask.question.Goals as goal

-- none was read
pub returns-in_err-next : goal.returns-in_err-next
returns-in_err-next c = rw c.from_residual.ensures (takes_none query_of query c.in_err-next.ensures.steps)

-- one was
pub returns : goal.returns
returns c = takes query_of query c.in_ok-next.ensures.steps _ c.question.ensures
