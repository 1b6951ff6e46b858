-- `routes::trail` meets its contract: the tests decide, and where they accept, the trail of the question's pair is stored.
-- Assumes nothing.
use native.Mathlib.Omega.{arith}
use mathlib.Core.Path.{sym, ◌∙◌}
use Rattle.tree.proofs.Verdicts.{handed_on}
use Rattle.tree.proofs.Fits.{trail_fit_lem}
use Rattle.tree.proofs.Pairs.{question-pair}
use Rattle.tree.specs.Tables.{lent_in}
use Rattle.routes.specs.Answers.{Asked, asked_by}
use Rattle.routes.proofs.Asking.{admitted-as, admitted-answerable}
use Rattle.routes.proofs.Giving.{trail-refused, trail-answered}
use lib.ListN.{length}
use Rattle.routes.proofs.trail.Goals as goal
use Rattle.routes.proofs.trail.Goals.{Start}

-- what is lent
abbrev asked : Start → Asked
asked c = let a = c.args in asked_by (lent_in a.lent) a.work.now a.question.now a.answer.now

pub trail-requires : goal.trail-requires
trail-requires c =
    let ready = admitted-answerable (asked (goal.at.trail-requires c).Start) _ c.admit.ensures.gives c.in_ok-sheet.was in
    let (two, one, whole) =
    trail_fit_lem (length (asked (goal.at.trail-requires c).Start).question) (length (asked (goal.at.trail-requires c).Start).answer)
    (length c.args.rows.now) (sym c.trail_unfit-unfit.ensures ∙ ready.owned.fits) in
    rw c.in_ok-sheet.ensures.same (question-pair ready.listed 0 (omega arith), two, one, whole)

pub returns : goal.returns
returns c =
    let ready = admitted-answerable (asked (goal.at.returns c).Start) _ c.admit.ensures.gives c.in_ok-sheet.was in
    let (two, _, _) =
    trail_fit_lem (length (asked (goal.at.returns c).Start).question) (length (asked (goal.at.returns c).Start).answer)
    (length c.args.rows.now) (sym c.trail_unfit-unfit.ensures ∙ ready.owned.fits) in
    let done = rw c.in_ok-sheet.ensures.same at c.trail.ensures in
    trail-answered (asked (goal.at.returns c).Start) c.args.rows.now
    (admitted-as (asked (goal.at.returns c).Start) c.trail_unfit-unfit.ensures c.admit.ensures.gives) c.in_ok-sheet.was
    done.0 done.1 done.2 two

pub returns-in_err-sheet : goal.returns-in_err-sheet
returns-in_err-sheet c =
    trail-refused (asked (goal.at.returns-in_err-sheet c).Start) c.args.rows.now
    (admitted-as (asked (goal.at.returns-in_err-sheet c).Start) c.trail_unfit-unfit.ensures c.admit.ensures.gives) c.in_err-sheet.was (handed_on c.from_residual.result c.from_residual.ensures.1)
