-- `console::ask::lifted` meets its contract: the trail gives the pair's verdict, and where it accepts, its lifts.
-- Assumes nothing.
use mathlib.Core.Path.{refl}
use Rattle.console.proofs.Answering.{trail-refused, pair-answered}
use Rattle.console.proofs.ask.lifted.Goals as goal

-- where the pair is refused, its refusal is printed
pub refusal-requires : goal.refusal-requires
refusal-requires c = rw (trail-refused c.requires.stands c.trail.ensures refl refl c.in-Err.is) c.requires.room

pub returns-in-Err : goal.returns-in-Err
returns-in-Err c = rw (trail-refused c.requires.stands c.trail.ensures refl refl c.in-Err.is) at c.refusal.ensures

-- where it is traced, its line
pub pair-requires : goal.pair-requires
pair-requires c = rw (← pair-answered c.requires.stands c.trail.ensures refl refl c.in-Ok.is c.requires.found) at c.requires.room

pub returns-in-Ok : goal.returns-in-Ok
returns-in-Ok c = rw (pair-answered c.requires.stands c.trail.ensures refl refl c.in-Ok.is c.requires.found) at c.pair.ensures
