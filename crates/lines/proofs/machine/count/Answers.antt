-- `lines::machine::count` meets its contract: the next line is taken as a machine line.
-- Assumes nothing.
use Rattle.lines.specs.Read.{machine_count}
use Rattle.lines.proofs.Taking.{takes, takes_none}
use Rattle.lines.proofs.machine.count.Goals as goal

-- none was read
pub returns-in_err-next : goal.returns-in_err-next
returns-in_err-next c = rw c.from_residual.ensures (takes_none (λ n. n) machine_count c.in_err-next.ensures.steps)

-- one was
pub returns : goal.returns
returns c = takes (λ n. n) machine_count c.in_ok-next.ensures.steps _ c.machine_count.ensures
