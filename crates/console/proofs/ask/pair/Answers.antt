-- `console::ask::pair` meets its contract: the route gives the pair's verdict, and where it accepts, its carrier and both branches.
-- Assumes nothing.
use mathlib.Core.Path.{refl}
use Rattle.console.proofs.Answering.{pair-refused, pair_found}
use Rattle.console.proofs.ask.pair.Goals as goal

-- where the pair is refused, its refusal is printed
pub refusal-requires : goal.refusal-requires
refusal-requires c = rw (pair-refused c.requires.stands c.pairs_by_labels.ensures refl c.in-Err.is) c.requires.room

pub returns-in-Err : goal.returns-in-Err
returns-in-Err c = rw (pair-refused c.requires.stands c.pairs_by_labels.ensures refl c.in-Err.is) at c.refusal.ensures

-- where it is accepted, its carrier and both branches are found
pub lifted-requires-clause-found : goal.lifted-requires-clause-found
lifted-requires-clause-found c = pair_found c.requires.stands c.pairs_by_labels.ensures refl c.in_default.is
