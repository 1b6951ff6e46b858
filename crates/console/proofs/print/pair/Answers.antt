-- `console::print::pair` meets its contract: the writes, one behind the other, are the line.
-- Assumes nothing.
use mathlib.Core.List.{◌++◌}
use Rattle.text.specs.Bytes.{bytes, word_number}
use Rattle.text.proofs.Putting.{room-first}
use Rattle.text.proofs.Writing.{has-then, writes_then}
use Rattle.text.specs.Writes.{HasRoom}
use Rattle.console.specs.Print.{answer_text, pair_line}
use Rattle.console.proofs.print.pair.Goals as goal
use Rattle.console.proofs.print.pair.Goals.{After-answer}

-- behind the answer there is room for the rest of the line
room : (c : After-answer) → HasRoom c.answer.new.to (word_number (bytes ") (lifts ") c.args.lifts ++ bytes "))\n")
unfolding pair_line bytes
room c = has-then c.answer.ensures _ (has-then c.word_number-2.ensures _ (has-then c.word_number.ensures _ c.requires))

pub word_number-requires : goal.word_number-requires
unfolding pair_line bytes
word_number-requires c = room-first _ (word_number (bytes "(pair ") c.args.x) _ c.requires

pub word_number-requires-2 : goal.word_number-requires-2
unfolding pair_line bytes
word_number-requires-2 c = room-first _ (word_number (bytes " ") c.args.y) _ (has-then c.word_number.ensures _ c.requires)

pub answer-requires : goal.answer-requires
unfolding pair_line bytes
answer-requires c = room-first _ (answer_text _) _ (has-then c.word_number-2.ensures _ (has-then c.word_number.ensures _ c.requires))

pub word_number-requires-3 : goal.word_number-requires-3
unfolding bytes
word_number-requires-3 c = room-first _ (word_number (bytes ") (lifts ") c.args.lifts) _ (room (goal.at.word_number-requires-3 c).After-answer)

pub word-requires : goal.word-requires
unfolding bytes
word-requires c = has-then c.word_number-3.ensures (bytes "))\n") (room (goal.at.word-requires c).After-answer)

pub returns : goal.returns
unfolding pair_line bytes
returns c =
    let behind-x = has-then c.word_number.ensures _ c.requires in
    let behind-y = has-then c.word_number-2.ensures _ behind-x in
    let from-lifts = writes_then c.word_number-3.ensures _ (room (goal.at.returns c).After-answer) c.word.ensures in
    let from-carrier = writes_then c.answer.ensures _ behind-y from-lifts in
    writes_then c.word_number.ensures _ c.requires (writes_then c.word_number-2.ensures _ behind-x from-carrier)
