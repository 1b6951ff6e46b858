-- `console::print::list` meets its contract: the first numbers are written.
-- Assumes nothing.
use lib.ListN.{take}
use Rattle.text.specs.Writes.{Writes}
use Rattle.lines.specs.Forms.{list_text}
use Rattle.console.proofs.print.list.Given as goal

abbrev pub invariant-loop-x : goal.invariant-loop-x
invariant-loop-x l = Writes l.initial.to (list_text (take l.x-index l.question)) l.to
