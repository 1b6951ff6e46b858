-- `console::ask::many` meets its contract: the list gives the question's verdict, and where it accepts, its carrier.
-- Assumes nothing.
use mathlib.Core.Path.{refl}
use Rattle.console.proofs.Answering.{many-refused, many-answered}
use Rattle.console.proofs.ask.many.Goals as goal

-- where the list is refused, its refusal is printed
pub refusal-requires : goal.refusal-requires
refusal-requires c = rw (many-refused c.requires.stands c.list.ensures refl c.in-Err.is) c.requires.room

pub returns-in-Err : goal.returns-in-Err
returns-in-Err c = rw (many-refused c.requires.stands c.list.ensures refl c.in-Err.is) at c.refusal.ensures

-- where it is accepted, its line
pub many-requires : goal.many-requires
many-requires c = rw (many-answered c.requires.stands c.list.ensures refl c.in_default.is) c.requires.room

pub returns : goal.returns
returns c = rw (many-answered c.requires.stands c.list.ensures refl c.in_default.is) at c.many.ensures
