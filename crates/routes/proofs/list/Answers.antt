-- `routes::list` meets its contract: the tests decide, and where they accept, the list's carrier is stored.
-- Assumes nothing.
use mathlib.Core.Path.{sym, ◌∙◌}
use Rattle.tree.proofs.Verdicts.{handed_on}
use Rattle.tree.proofs.Fits.{list-fit}
use Rattle.tree.specs.Tables.{lent_in}
use Rattle.routes.specs.Answers.{Asked, asked_by}
use Rattle.routes.proofs.Asking.{admitted-as, admitted-answerable}
use Rattle.routes.proofs.Giving.{list-refused, list-answered}
use Rattle.routes.proofs.list.Goals as goal
use Rattle.routes.proofs.list.Goals.{Start}

-- what is lent
abbrev asked : Start → Asked
asked c = let a = c.args in asked_by (lent_in a.lent) a.work.now a.question.now a.answer.now

pub returns-in_err-sheet : goal.returns-in_err-sheet
returns-in_err-sheet c =
    list-refused (asked (goal.at.returns-in_err-sheet c).Start)
    (admitted-as (asked (goal.at.returns-in_err-sheet c).Start) c.list_unfit-unfit.ensures c.admit.ensures.gives) c.in_err-sheet.was (handed_on c.from_residual.result c.from_residual.ensures.1)

pub list-requires : goal.list-requires
list-requires c =
    let ready = admitted-answerable (asked (goal.at.list-requires c).Start) _ c.admit.ensures.gives c.in_ok-sheet.was in
    rw c.in_ok-sheet.ensures.same (ready.listed, list-fit _ (sym c.list_unfit-unfit.ensures ∙ ready.owned.fits))

pub returns : goal.returns
returns c =
    list-answered (asked (goal.at.returns c).Start) (admitted-as (asked (goal.at.returns c).Start) c.list_unfit-unfit.ensures c.admit.ensures.gives)
    c.in_ok-sheet.was
    (rw c.in_ok-sheet.ensures.same at c.list.ensures)
