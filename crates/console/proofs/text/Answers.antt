-- `console::text` meets its contract: an input above the limit is refused, and one within it goes on as its machine line says.
-- Assumes nothing.
use Rattle.console.proofs.Ending.{output-above, output-within}
use Rattle.console.proofs.text.Goals as goal

-- above the limit
pub refusal-requires : goal.refusal-requires
refusal-requires c = rw (output-above _ c.if-input-gt-MOST_BYTES.true) c.requires

pub returns-then-input-gt-MOST_BYTES : goal.returns-then-input-gt-MOST_BYTES
returns-then-input-gt-MOST_BYTES c = rw (output-above _ c.if-input-gt-MOST_BYTES.true) at c.refusal.ensures

-- within it
pub machine-requires-clause-room : goal.machine-requires-clause-room
machine-requires-clause-room c = rw (output-within c.if-input-gt-MOST_BYTES.false c.in-Ok.ensures) c.requires

pub refusal-requires-in-Err : goal.refusal-requires-in-Err
refusal-requires-in-Err c = rw (output-within c.if-input-gt-MOST_BYTES.false c.in-Err.ensures) c.requires

pub returns-in-Ok : goal.returns-in-Ok
returns-in-Ok c = rw (output-within c.if-input-gt-MOST_BYTES.false c.in-Ok.ensures) at c.machine.ensures

pub returns-in-Err : goal.returns-in-Err
returns-in-Err c = rw (output-within c.if-input-gt-MOST_BYTES.false c.in-Err.ensures) at c.refusal-in-Err.ensures
