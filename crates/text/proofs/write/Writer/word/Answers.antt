-- `text::write::Writer::word` meets its contract: the word is copied to its place.
-- Assumes nothing.
use Rattle.std.proofs.Common.{arith, refl}
use Rattle.text.proofs.Putting.{puts-copied}
use Rattle.text.proofs.write.Writer.word.Goals as goal

pub returns : goal.returns
returns c = record { puts = puts-copied (omega arith) c.copy_from_slice.ensures.after; same = refl }
