-- `tables::build` meets its contract: what was tested decides, and an accepted sheet fits.
-- Assumes nothing.
use Prim.Native.Nat.{ℕ}
use mathlib.Core.Path.{refl}
use Rattle.tree.proofs.Verdicts.{handed_on}
use Rattle.tables.proofs.Lending.{found-tested, found-work, tested-fits, build-refused, build-accepted}
use Rattle.tree.specs.Tables.{Lent, lent_by}
use Rattle.tree.specs.Lending.{unfit_of}
use Rattle.tables.proofs.build.Goals as goal
use Rattle.tables.proofs.build.Goals.{Start}

-- what is lent
abbrev lent : Start → Lent
lent c = let a = c.args in lent_by a.parents.now a.label.now a.tour.now a.lift.now a.order.now

-- the lowest buffer that does not fit
abbrev unfit : Start → ℕ
unfit s = unfit_of (lent s) s.args.work.now 0

pub admit-requires : goal.admit-requires
admit-requires c =
    found-work (lent (goal.at.admit-requires c).Start) c.args.work.now 0 _ c.tables_unfit-unfit.ensures

pub returns-in_err-admit : goal.returns-in_err-admit
returns-in_err-admit c =
    let tested = found-tested c.args.parents.now (unfit (goal.at.returns-in_err-admit c).Start) _ c.tables_unfit-unfit.ensures c.admit.ensures in
    build-refused (lent (goal.at.returns-in_err-admit c).Start) _ tested c.in_err-admit.was (handed_on c.from_residual.result c.from_residual.ensures.1)

pub tables-requires : goal.tables-requires
tables-requires c =
    tested-fits _ _ _ 0 _ c.tables_unfit-unfit.ensures c.admit.ensures c.in_ok-admit.was c.admit.auto.work

pub returns : goal.returns
returns c =
    let yes = c.in_ok-admit.was in
    let fits = tested-fits (lent (goal.at.returns c).Start) c.args.work.now c.args.work.now 0 _ c.tables_unfit-unfit.ensures c.admit.ensures yes refl in
    build-accepted (lent (goal.at.returns c).Start) _
    (found-tested c.args.parents.now (unfit (goal.at.returns c).Start) _ c.tables_unfit-unfit.ensures c.admit.ensures) yes refl fits.ready.room
    c.tables.ensures
