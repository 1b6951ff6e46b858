-- `console::print::machine` meets its contract: the writes, one behind the other, are the line.
-- Assumes nothing.
use Rattle.text.specs.Bytes.{bytes, word_number}
use Rattle.text.proofs.Putting.{room-first}
use Rattle.text.proofs.Writing.{has-then, writes_then}
use Rattle.console.specs.Print.{machine_line}
use Rattle.console.proofs.print.machine.Goals as goal

pub word_number-requires : goal.word_number-requires
unfolding machine_line bytes
word_number-requires c = room-first _ (word_number (bytes "(machine ") c.args.n) _ c.requires

pub word-requires : goal.word-requires
unfolding machine_line bytes
word-requires c = has-then c.word_number.ensures _ c.requires

pub returns : goal.returns
unfolding machine_line bytes
returns c = writes_then c.word_number.ensures _ c.requires c.word.ensures
