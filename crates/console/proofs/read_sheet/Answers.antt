-- `console::read_sheet` meets its contract: the sheet that the part lines give is tested, or they break off.
-- Assumes nothing.
use Rattle.std.specs.Prelude.{Err}
use Rattle.console.specs.Run.{sheet_run}
use Rattle.console.proofs.Entering.{sheet-read}
use Rattle.console.proofs.read_sheet.Goals as goal

pub refusal-requires : goal.refusal-requires
unfolding sheet_run
refusal-requires c = rw (← sheet-read c.args.reader c.part_lines.new.reader c.part_lines.new.parents (Err c.in-Err.number) c.in-Err.ensures c.part_lines.auto.parents) at c.requires.room

pub returns-in-Err : goal.returns-in-Err
unfolding sheet_run
returns-in-Err c = rw (← sheet-read c.args.reader c.part_lines.new.reader c.part_lines.new.parents (Err c.in-Err.number) c.in-Err.ensures c.part_lines.auto.parents) c.refusal.ensures
