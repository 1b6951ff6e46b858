-- `console::test_sheet` meets its contract: the sheet alone decides, and where it is accepted, its questions are answered.
-- Assumes nothing.
use Rattle.lines.specs.Gives.{rest_of}
use Rattle.console.proofs.Testing.{sheet-refused, sheet-accepted, sheet-stands}
use Rattle.console.proofs.test_sheet.Goals as goal

-- where the sheet is refused, its refusal is printed
pub refusal-requires : goal.refusal-requires
refusal-requires c = rw (sheet-refused c.requires.sized c.build.ensures (rest_of c.args.reader) c.in-Err.is) c.requires.room

pub returns-in-Err : goal.returns-in-Err
returns-in-Err c = rw (sheet-refused c.requires.sized c.build.ensures (rest_of c.args.reader) c.in-Err.is) at c.refusal.ensures

-- where it is accepted, the answers to its questions
pub questions-requires-clause-stands : goal.questions-requires-clause-stands
questions-requires-clause-stands c = sheet-stands c.requires.sized c.build.ensures c.in_default.is

pub questions-requires-clause-room : goal.questions-requires-clause-room
questions-requires-clause-room c = rw (sheet-accepted c.requires.sized c.build.ensures c.in_default.is) c.requires.room

pub returns : goal.returns
returns c = rw (sheet-accepted c.requires.sized c.build.ensures c.in_default.is) at c.questions.ensures
