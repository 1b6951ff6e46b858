-- `lines::reader::Reader::next` meets its contract: the line's end is looked for, and the bytes before it are read.
-- Assumes nothing.
use Rattle.std.proofs.Common.{refl}
use Rattle.std.proofs.lemmas.List.{take_rest}
use Rattle.lines.proofs.NextLine.{takes-tail, takes-line}
use Rattle.lines.proofs.reader.ReaderIterator.next.Goals as goal

-- no LF ends the line
pub returns-in_default-clause-steps : goal.returns-in_default-clause-steps
returns-in_default-clause-steps c = takes-tail c.args.self.now _ refl (rw take_rest at c.in_default.ensures) refl

-- one does
pub returns-clause-steps : goal.returns-clause-steps
returns-clause-steps c = takes-line c.args.self.now _ refl (rw take_rest at c.in-Some.ensures) refl _ c.read.ensures
