-- `console::print::answer` meets its contract: the writes, one behind the other, are the text.
-- Assumes nothing.
use Rattle.text.specs.Bytes.{bytes, word_number}
use Rattle.text.proofs.Putting.{room-first}
use Rattle.text.proofs.Writing.{has-then, writes_then}
use Rattle.console.specs.Print.{answer_text}
use Rattle.console.proofs.print.answer.Goals as goal

pub word_number-requires : goal.word_number-requires
unfolding answer_text bytes
word_number-requires c = room-first _ (word_number (bytes " (carrier ") c.args.found.carrier) _ c.requires

pub word_number-requires-2 : goal.word_number-requires-2
unfolding answer_text bytes
word_number-requires-2 c = room-first _ (word_number (bytes ") (by ") c.args.found.left) _ (has-then c.word_number.ensures _ c.requires)

pub word_number-requires-3 : goal.word_number-requires-3
unfolding answer_text bytes
word_number-requires-3 c = has-then c.word_number-2.ensures _ (has-then c.word_number.ensures _ c.requires)

pub returns : goal.returns
unfolding answer_text bytes
returns c =
    let behind = has-then c.word_number.ensures _ c.requires in
    writes_then c.word_number.ensures _ c.requires (writes_then c.word_number-2.ensures _ behind c.word_number-3.ensures)
