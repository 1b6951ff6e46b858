-- `text::write::Writer::word_number` meets its contract: the two writes, one behind the other, are one.
-- Assumes nothing.
use Rattle.text.specs.Bytes.{word_number}
use Rattle.text.proofs.Putting.{room-first}
use Rattle.text.proofs.Writing.{has-then, writes_then}
use Rattle.text.proofs.write.Writer.word_number.Goals as goal

-- there is room for the word
pub word-requires : goal.word-requires
unfolding word_number
word-requires c = room-first _ c.args.word.now _ c.requires

-- and for the number behind it
pub decimal-requires : goal.decimal-requires
unfolding word_number
decimal-requires c = has-then c.word.ensures _ c.requires

-- both are written
pub returns : goal.returns
unfolding word_number
returns c = writes_then c.word.ensures _ c.requires c.decimal.ensures
