-- `console::print::refusal` meets its contract: the writes, one behind the other, are the line.
-- Assumes nothing.
use Rattle.text.specs.Bytes.{bytes, word_number}
use Rattle.text.proofs.Putting.{room-first}
use Rattle.text.proofs.Writing.{has-then, writes_then}
use Rattle.text.specs.Writes.{HasRoom}
use Rattle.console.specs.Print.{refusal}
use Rattle.console.proofs.print.refusal.Goals as goal
use Rattle.console.proofs.print.refusal.Goals.{After-from-numbered}

-- there is room for the line of the number and the place that were given
room : (c : After-from-numbered) → let given = c.from-numbered.result in HasRoom c.args.to.now (refusal given.number given.place)
room c = let is = c.from-numbered.ensures in rw (is.0, is.1) c.requires

pub word_number-requires : goal.word_number-requires
unfolding refusal bytes
word_number-requires c =
    room-first _ (word_number (bytes "(refused ") c.from-numbered.result.number) _
    (room (goal.at.word_number-requires c).After-from-numbered)

pub word_number-requires-2 : goal.word_number-requires-2
unfolding refusal bytes
word_number-requires-2 c =
    room-first _ (word_number (bytes " (at ") c.from-numbered.result.place) _
    (has-then c.word_number.ensures _ (room (goal.at.word_number-requires-2 c).After-from-numbered))

pub word-requires : goal.word-requires
unfolding refusal bytes
word-requires c =
    has-then c.word_number-2.ensures (bytes "))\n") (has-then c.word_number.ensures _ (room (goal.at.word-requires c).After-from-numbered))

pub returns : goal.returns
unfolding refusal bytes
returns c =
    let is = c.from-numbered.ensures in
    let whole = room (goal.at.returns c).After-from-numbered in
    let behind = has-then c.word_number.ensures _ whole in
    rw (← is.0, ← is.1) (writes_then c.word_number.ensures _ whole (writes_then c.word_number-2.ensures _ behind c.word.ensures))
