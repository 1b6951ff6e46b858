-- `console::print::list` meets its contract: the first numbers are written.
-- Assumes nothing.
use native.Mathlib.Omega.{arith}
use Rattle.text.specs.Bytes.{bytes}
use Rattle.text.proofs.Writing.{writes_none}
use Rattle.lines.specs.Forms.{list_text}
use Rattle.console.proofs.Printed.{list-room, list-next}
use Rattle.console.proofs.print.list.Goals as goal

pub loop-x-init : goal.loop-x-init
unfolding list_text
loop-x-init c = writes_none _ (omega arith)

pub word_number-requires : goal.word_number-requires
unfolding bytes
word_number-requires c = list-room _ _ c.requires c.loop-x-test.true c.loop-x.invariant

pub loop-x-preserved : goal.loop-x-preserved
unfolding bytes
loop-x-preserved c = list-next _ _ c.requires c.loop-x-test.true c.loop-x.invariant c.word_number.ensures
