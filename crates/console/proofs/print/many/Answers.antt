-- `console::print::many` meets its contract: the writes, one behind the other, are the line.
-- Assumes nothing.
use mathlib.Core.List.{◌++◌}
use Rattle.text.specs.Bytes.{bytes, word_number}
use Rattle.text.proofs.Putting.{room-first}
use Rattle.text.proofs.Writing.{has-then, writes_then}
use Rattle.text.specs.Writes.{HasRoom}
use Rattle.lines.specs.Forms.{list_text}
use Rattle.console.specs.Print.{many_line}
use Rattle.console.proofs.print.many.Goals as goal
use Rattle.console.proofs.print.many.Goals.{After-list}

-- behind the numbers there is room for the rest of the line
room : (c : After-list) → HasRoom c.list.new.to (word_number (bytes " (carrier ") c.args.carrier ++ bytes "))\n")
unfolding many_line bytes
room c = has-then c.list.ensures _ (has-then c.word.ensures _ c.requires)

pub word-requires : goal.word-requires
unfolding many_line bytes
word-requires c = room-first _ (bytes "(many") _ c.requires

pub list-requires : goal.list-requires
unfolding many_line bytes
list-requires c = room-first _ (list_text c.args.question.now) _ (has-then c.word.ensures _ c.requires)

pub word_number-requires : goal.word_number-requires
unfolding bytes
word_number-requires c = room-first _ (word_number (bytes " (carrier ") c.args.carrier) _ (room (goal.at.word_number-requires c).After-list)

pub word-requires-2 : goal.word-requires-2
unfolding bytes
word-requires-2 c = has-then c.word_number.ensures (bytes "))\n") (room (goal.at.word-requires-2 c).After-list)

pub returns : goal.returns
unfolding many_line bytes
returns c =
    let behind = has-then c.word.ensures _ c.requires in
    let end = writes_then c.word_number.ensures _ (room (goal.at.returns c).After-list) c.word-2.ensures in
    writes_then c.word.ensures _ c.requires (writes_then c.list.ensures _ behind end)
