-- `console::sheet::part_lines` meets its contract. The loop's invariant: the entries of the parts before v were read and stand in the sheet, and the line
-- of part v comes next. Assumes nothing.
use Rattle.lines.specs.Gives.{rest_of}
use Rattle.console.proofs.Entering.{Entered}
use Rattle.console.proofs.sheet.part_lines.Given as goal

abbrev pub invariant-loop-v : goal.invariant-loop-v
invariant-loop-v l = Entered (rest_of l.initial.reader) l.parents l.v (rest_of l.reader)
