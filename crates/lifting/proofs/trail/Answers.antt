-- `lifting::trail` meets its contract: once levelled, parts that differ are raised.
-- Assumes nothing.
use borrow.Author.Rules.{rules}
use Rattle.tree.proofs.Levelled.{levelled-most}
use Rattle.lifting.specs.Stored.{row}
use Rattle.lifting.proofs.Powers.{few-powers}
use Rattle.lifting.proofs.Raising.{trail-one, trail-two}
use Rattle.lifting.proofs.trail.Goals as goal

pub returns-then-level : goal.returns-then-level
returns-then-level c = trail-one c.levelled-level.ensures c.if-level.true

pub raised-requires : goal.raised-requires
raised-requires c =
    let most = levelled-most c.args.sheet.now (row c.args.x c.args.y) in
    let few = few-powers c.requires.0.small in
    search rules

pub returns : goal.returns
returns c = trail-two c.levelled-level.ensures c.if-level.false c.raised.ensures
