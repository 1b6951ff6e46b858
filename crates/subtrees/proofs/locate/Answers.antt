-- `subtrees::locate` meets its contract: tests 1 to 8 decide, and where they accept, the part does.
-- Assumes nothing.
use Rattle.tree.specs.Tables.{lent_in}
use Rattle.tree.proofs.Verdicts.{handed_on}
use Rattle.subtrees.proofs.Locating.{locate-refused, locate-found}
use Rattle.subtrees.proofs.locate.Goals as goal

pub returns-in_err-sheet : goal.returns-in_err-sheet
returns-in_err-sheet c =
    locate-refused (lent_in c.args.lent) c.args.work.now c.args.part c.admit_lent.ensures.gives c.in_err-sheet.was
    (handed_on c.from_residual.result c.from_residual.ensures.1)

pub returns : goal.returns
returns c =
    let same = c.in_ok-sheet.ensures.same in
    locate-found (lent_in c.args.lent) c.args.work.now c.args.part c.admit_lent.ensures.gives c.in_ok-sheet.was (rw same at c.find.ensures)
