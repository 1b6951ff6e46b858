-- `routes::pairs` meets its contract: the tests decide, and where they accept, each pair's answer is stored.
-- Assumes nothing.
use mathlib.Core.Path.{sym, ◌∙◌}
use Rattle.tree.proofs.Verdicts.{handed_on}
use Rattle.tree.proofs.Fits.{pairs-fit}
use Rattle.tree.specs.Tables.{lent_in}
use Rattle.routes.specs.Answers.{Asked, asked_by}
use Rattle.routes.proofs.Asking.{admitted-as, admitted-answerable}
use Rattle.routes.proofs.Giving.{pairs-refused, pairs-answered}
use lib.ListN.{length}
use Rattle.routes.proofs.pairs.Goals as goal
use Rattle.routes.proofs.pairs.Goals.{Start}

-- what is lent
abbrev asked : Start → Asked
asked c = let a = c.args in asked_by (lent_in a.lent) a.work.now a.question.now a.answer.now

pub returns-in_err-sheet : goal.returns-in_err-sheet
returns-in_err-sheet c =
    pairs-refused c.args.route (asked (goal.at.returns-in_err-sheet c).Start)
    (admitted-as (asked (goal.at.returns-in_err-sheet c).Start) c.pairs_unfit-unfit.ensures c.admit.ensures.gives) c.in_err-sheet.was (handed_on c.from_residual.result c.from_residual.ensures.1)

pub pairs-requires : goal.pairs-requires
pairs-requires c =
    let ready = admitted-answerable (asked (goal.at.pairs-requires c).Start) _ c.admit.ensures.gives c.in_ok-sheet.was in
    let (_, cells) = pairs-fit (length c.args.question.now) (length c.args.answer.now) (sym c.pairs_unfit-unfit.ensures ∙ ready.owned.fits) in
    rw c.in_ok-sheet.ensures.same (ready.listed, cells)

pub returns : goal.returns
returns c =
    pairs-answered c.args.route (asked (goal.at.returns c).Start)
    (admitted-as (asked (goal.at.returns c).Start) c.pairs_unfit-unfit.ensures c.admit.ensures.gives)
    c.in_ok-sheet.was (rw c.in_ok-sheet.ensures.same at c.pairs.ensures)
